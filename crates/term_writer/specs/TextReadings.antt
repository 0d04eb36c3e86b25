-- What is read of a term's text.
use Rattle.std.specs.Prelude.{◌≡◌, ℕ, ◌≤◌, nat_abs, List, [], ◌∷◌, ◌++◌, true, false, length, slice_get, Some, IsUtf8, codes}
use Rattle.std.specs.List.{position_or_len}
use Rattle.std.specs.Str.{bytes_eq}
use Rattle.fd_language.specs.Term.{Name, Term, Terms, Var, Int, Atom, Comp, no_terms, term, apply}
use Rattle.fd_language.specs.Family.{has}
use Rattle.fd_language.specs.Variables.{variables_of}
use Rattle.fd_language.specs.TermTexts.{Quoted, term_text}
use Rattle.fd_language.specs.PlacedTerm.{plain}
use Rattle.fd_language.specs.Tokens.{greatest_integer, Variable, Token, front_of, Lexeme, TokensOf}
use Rattle.fd_language.specs.Terminals.{Terminal, stop}
use Rattle.fd_language.specs.GrammarFaults.{IsShallow}
use Rattle.fd_language.specs.Reading.{is_anonymous, terminals, Sentence, sentences, IsReading}
use Rattle.term_writer.specs.SpelledTerms.{Within}

-- ---- what can be read back

-- the text is that of a variable other than _, and of nothing more
pub record IsVariable (text : List ℕ) : Type 0 where
  pub utf8 : IsUtf8 text
  pub token : front_of text ≡ Token Variable (length text)
  pub named : is_anonymous text ≡ false

-- the name of a compound, which has the arguments ts behind the first
pub record IsFunctor (f : Name) (ts : Terms) : Type 0 where
  pub utf8 : IsUtf8 f
  pub no_list : f ≡ codes "[]" → ⊥
  pub curly : f ≡ codes "{}" → ts ≡ no_terms

-- Names are UTF-8, integers those of scope, variables' texts those of variables. Each compound has arguments. None is named [], and {} has one.
abbrev mutual
  pub IsReadable : (ℕ → List ℕ) → Term → Type 0
  IsReadable vars (Var x) = IsVariable (vars x)
  IsReadable vars (Int z) = nat_abs z ≤ greatest_integer
  IsReadable vars (Atom a) = IsUtf8 a
  IsReadable vars (Comp f no_terms) = ⊥
  IsReadable vars (Comp f (term t ts)) = IsFunctor f ts × IsReadable vars t × AllReadable vars ts

  pub AllReadable : (ℕ → List ℕ) → Terms → Type 0
  AllReadable vars no_terms = Unit {0}
  AllReadable vars (term t ts) = IsReadable vars t × AllReadable vars ts

-- ---- what is read

-- the number of a variable, by its text, in a sentence whose variables have these names
abbrev pub number_among : (ℕ → List ℕ) → List Name → ℕ → ℕ
number_among vars names x = position_or_len (bytes_eq (vars x)) names

-- The tokens of the text derive the term t within the limit, and leave what is behind it, up to places and to the names of variables: each variable has the
-- number at which its text stands among the names.
pub record Derives (vars : ℕ → List ℕ) (limit : ℕ) (t : Term) (text : List ℕ) (behind : List Terminal) : Type 0 where
  pub lexemes : List Lexeme
  pub tokens : TokensOf text lexemes
  pub sentence : Sentence
  pub derived : Within (terminals [] lexemes) behind limit sentence.term
  pub same : plain sentence.term ≡ apply (λ x. Var (number_among vars sentence.names x)) t
  pub named : (x : ℕ) → has (variables_of t) x ≡ true → slice_get sentence.names (number_among vars sentence.names x) ≡ Some (vars x)

-- The text is one sentence, whose term is t, where no bracket too many is open.
pub record IsSentenceOf (vars : ℕ → List ℕ) (limit : ℕ) (t : Term) (text : List ℕ) : Type 0 where
  pub derives : Derives vars limit t text (stop ∷ [])
  pub read : IsShallow (terminals [] derives.lexemes) (length (terminals [] derives.lexemes)) → IsReading text (sentences (derives.sentence ∷ []))

-- The tokens of what mode Quoted writes of a term derive the term; and with " ." behind it, it is a sentence of that term.
pub record WrittenIsRead : Type 0 where
  pub text : (vars : ℕ → List ℕ) (limit : ℕ) (t : Term) → IsReadable vars t → Derives vars limit t (term_text Quoted vars limit t) []
  pub sentence : (vars : ℕ → List ℕ) (limit : ℕ) (t : Term) → IsReadable vars t → IsSentenceOf vars limit t (term_text Quoted vars limit t ++ codes " .")
