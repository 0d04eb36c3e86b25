-- The generator's texts are programs with one query.
use Rattle.std.proofs.Common.{◌≡◌, ◌≤◌, ℕ, zero, suc, ◌+◌, Bool, List, true, false, [], ◌∷◌, length, take, drop, map, refl, sym, ap, ◌∙◌, subst, Option, Some, None}
use Rattle.std.proofs.Common.{arith, inr}
use Rattle.std.specs.Prelude.{reverse, nat_lt, nat_le, nat_eq, is_none, ◌&&◌}
use Rattle.std.specs.Fmt.{digits}
use Rattle.std.specs.Str.{chars, IsAscii}
use Rattle.std.proofs.lemmas.Bool.{ltb-true, leb-true, eqb-true, and_parts}
use Rattle.std.proofs.lemmas.List.{reverse-reverse}
use Rattle.std.proofs.lemmas.Str.{IsUtf8-from_ascii}
use Rattle.fd_language.specs.Characters.{is_symbol, is_punct, begins_variable}
use Rattle.fd_language.specs.Operators.{is_operator, infix_of, prefix_of}
use Rattle.fd_language.specs.Term.{Name}
use Rattle.fd_language.specs.Terminals.{Terminal, name, operator_word, variable, integer, opens, closes, open_list, close_list, open_curly, close_curly, comma}
use Rattle.fd_language.specs.Terminals.{bar, stop}
use Rattle.fd_language.specs.Tokens.{Lexeme, Front, Ends, Gap, Token, Offends, front_of, HasTokens, ended, after_gap, after_token}
use Rattle.fd_language.specs.GrammarFaults.{deepest, brackets, open_behind, IsShallow, IsRead}
use Rattle.fd_language.specs.PlacedTerm.{PlacedTerm}
use Rattle.fd_language.specs.Reading.{terminals, Sentence, sentences, sentence_names, IsSentences}
use Rattle.fd_language.specs.ReadingSteps.{State, want, at_list, at_curly_bracket, at_operator, after, top, paren, args, items, tail, curly, before, between, run}
use Rattle.fd_model.specs.Generator.{queens_text}
use Rattle.fd_model.specs.Goal.{Program, Query}
use Rattle.fd_model.specs.Queries.{program_of}
use Rattle.fd_model.specs.Refusals.{Refusal, first_refusal}
use Rattle.fd_model.specs.Verdict.{IsVerdict, accepted, max_text, sentences_verdict}
use Rattle.term_reader.proofs.Lemmas.{sound}
use Rattle.ucd_derived.proofs.Computing.{ucd_derived}

-- ---- tokens

-- the tokens in the first bytes of a text, and the bytes behind them
record Lexed : Type 0 where
  pub tokens : List Lexeme
  pub at : ℕ
  pub tight : Bool
  pub rest : List ℕ

abbrev nothing : ℕ → Bool → List ℕ → Lexed
nothing at tight bytes = record { tokens = []; at = at; tight = tight; rest = bytes }

abbrev behind : Lexeme → Lexed → Lexed
behind l later = record { tokens = l ∷ later.tokens; at = later.at; tight = later.tight; rest = later.rest }

abbrev by_front : (ℕ → Bool → List ℕ → Lexed) → ℕ → Bool → List ℕ → Front → Lexed
by_front f at tight bytes Ends = nothing at tight bytes
by_front f at tight bytes (Gap k) = f (at + k) false (drop k bytes)
by_front f at tight bytes (Token kind k) = behind (record { kind = kind; text = take k bytes; place = at; tight = tight }) (f (at + k) true (drop k bytes))
by_front f at tight bytes (Offends cause k) = nothing at tight bytes

abbrev lex : ℕ → ℕ → Bool → List ℕ → Lexed
lex zero at tight bytes = nothing at tight bytes
lex (suc n) at tight bytes = by_front (lex n) at tight bytes (front_of bytes)

lexed_by : (f : ℕ → Bool → List ℕ → Lexed) → ((at : ℕ) (tight : Bool) (bytes : List ℕ) → front_of (f at tight bytes).rest ≡ Ends → HasTokens at tight bytes (f at tight bytes).tokens)
    → (at : ℕ) (tight : Bool) (bytes : List ℕ) (front : Front) → front_of bytes ≡ front → front_of (by_front f at tight bytes front).rest ≡ Ends
    → HasTokens at tight bytes (by_front f at tight bytes front).tokens
lexed_by f k at tight bytes Ends is h = ended is
lexed_by f k at tight bytes (Gap n) is h = after_gap n is (k (at + n) false (drop n bytes) h)
lexed_by f k at tight bytes (Token kind n) is h = after_token kind n is (k (at + n) true (drop n bytes) h)
lexed_by f k at tight bytes (Offends cause n) is h = ended h

lexed : (n at : ℕ) (tight : Bool) (bytes : List ℕ) → front_of (lex n at tight bytes).rest ≡ Ends → HasTokens at tight bytes (lex n at tight bytes).tokens
lexed zero at tight bytes e = ended e
lexed (suc n) at tight bytes e = lexed_by (lex n) (lexed n) at tight bytes (front_of bytes) refl e

-- ---- brackets

brackets_few : (n : ℕ) (ts : List Terminal) → brackets n ts ≤ n + length ts
brackets_few n [] = omega arith
brackets_few n (t ∷ ts) = let here = one n t in let later = brackets_few (open_behind n t) ts in omega (arith, here, later)
  where
    one : (n : ℕ) (t : Terminal) → open_behind n t ≤ n + 1
    one n (name p a) = omega arith
    one n (operator_word p a) = omega arith
    one n (variable p v) = omega arith
    one n (integer p b z) = omega arith
    one n (opens p b) = omega arith
    one n closes = omega arith
    one n (open_list p) = omega arith
    one n close_list = omega arith
    one n (open_curly p) = omega arith
    one n close_curly = omega arith
    one n (comma p) = omega arith
    one n bar = omega arith
    one n stop = omega arith

length_take : (j : ℕ) (ts : List Terminal) → length (take j ts) ≤ length ts
length_take zero ts = omega arith
length_take (suc j) [] = omega arith
length_take (suc j) (t ∷ ts) = let later = length_take j ts in omega (arith, later)

shallow : (ts : List Terminal) → length ts ≤ deepest → IsShallow ts (length ts)
shallow ts few j le = let a = brackets_few 0 (take j ts) in let b = length_take j ts in omega (arith, a, b, few)

-- ---- the sentences

abbrev paired : List PlacedTerm → List (List Name) → List Sentence
paired [] ns = []
paired (t ∷ ts) [] = []
paired (t ∷ ts) (n ∷ ns) = record { term = t; names = n } ∷ paired ts ns

abbrev one_query : List Query → Bool
one_query (q ∷ []) = true
one_query _ = false

abbrev all_ascii : List ℕ → Bool
all_ascii [] = true
all_ascii (c ∷ cs) = nat_lt c 128 && all_ascii cs

abbrev is_end : Front → Bool
is_end Ends = true
is_end (Gap k) = false
is_end (Token kind k) = false
is_end (Offends cause k) = false

abbrev sentences_pass : ℕ → ℕ → List Sentence → Bool
sentences_pass M N ss = is_none (first_refusal M N (map (λ s. s.term) ss) (map (λ s. s.term) ss)) && one_query (program_of N ss).queries

-- the terms read in all of a text, with the names of its sentences
abbrev terms_pass : ℕ → ℕ → List (List Name) → Option State → Bool
terms_pass M N ns (Some (want (top ts))) = nat_eq (length (reverse ts)) (length ns) && sentences_pass M N (paired (reverse ts) ns)
terms_pass M N ns s = false

abbrev terminals_pass : ℕ → ℕ → List (List Name) → List Terminal → Bool
terminals_pass M N ns ts = nat_le (length ts) deepest && terms_pass M N ns (run ts (want (top [])))

abbrev tokens_pass : ℕ → ℕ → Lexed → Bool
tokens_pass M N l = is_end (front_of l.rest) && terminals_pass M N (sentence_names [] l.tokens) (terminals [] l.tokens)

-- all that a text has to pass, computed at once: what stands in an argument is computed once
abbrev passes : ℕ → ℕ → List ℕ → Bool
passes M N text = nat_le (length text) max_text && (all_ascii text && tokens_pass M N (lex 300 0 true text))

four : (M N : ℕ) → passes M N (queens_text 4) ≡ true
unfolding front_of chars is_symbol is_punct begins_variable ucd_derived digits is_operator infix_of prefix_of
four M N = refl

five : (M N : ℕ) → passes M N (queens_text 5) ≡ true
unfolding front_of chars is_symbol is_punct begins_variable ucd_derived digits is_operator infix_of prefix_of
five M N = refl

six : (M N : ℕ) → passes M N (queens_text 6) ≡ true
unfolding front_of chars is_symbol is_punct begins_variable ucd_derived digits is_operator infix_of prefix_of
six M N = refl

seven : (M N : ℕ) → passes M N (queens_text 7) ≡ true
unfolding front_of chars is_symbol is_punct begins_variable ucd_derived digits is_operator infix_of prefix_of
seven M N = refl

eight : (M N : ℕ) → passes M N (queens_text 8) ≡ true
unfolding front_of chars is_symbol is_punct begins_variable ucd_derived digits is_operator infix_of prefix_of
eight M N = refl

nine : (M N : ℕ) → passes M N (queens_text 9) ≡ true
unfolding front_of chars is_symbol is_punct begins_variable ucd_derived digits is_operator infix_of prefix_of
nine M N = refl

ten : (M N : ℕ) → passes M N (queens_text 10) ≡ true
unfolding front_of chars is_symbol is_punct begins_variable ucd_derived digits is_operator infix_of prefix_of
ten M N = refl

eleven : (M N : ℕ) → passes M N (queens_text 11) ≡ true
unfolding front_of chars is_symbol is_punct begins_variable ucd_derived digits is_operator infix_of prefix_of
eleven M N = refl

twelve : (M N : ℕ) → passes M N (queens_text 12) ≡ true
unfolding front_of chars is_symbol is_punct begins_variable ucd_derived digits is_operator infix_of prefix_of
twelve M N = refl

-- each of the generator's texts passes
each_passes : (M N n : ℕ) → 4 ≤ n → n ≤ 12 → passes M N (queens_text n) ≡ true
each_passes M N zero least most = absurd (omega (arith, least))
each_passes M N (suc zero) least most = absurd (omega (arith, least))
each_passes M N (suc (suc zero)) least most = absurd (omega (arith, least))
each_passes M N (suc (suc (suc zero))) least most = absurd (omega (arith, least))
each_passes M N (suc (suc (suc (suc zero)))) least most = four M N
each_passes M N (suc (suc (suc (suc (suc zero))))) least most = five M N
each_passes M N (suc (suc (suc (suc (suc (suc zero)))))) least most = six M N
each_passes M N (suc (suc (suc (suc (suc (suc (suc zero))))))) least most = seven M N
each_passes M N (suc (suc (suc (suc (suc (suc (suc (suc zero)))))))) least most = eight M N
each_passes M N (suc (suc (suc (suc (suc (suc (suc (suc (suc zero))))))))) least most = nine M N
each_passes M N (suc (suc (suc (suc (suc (suc (suc (suc (suc (suc zero)))))))))) least most = ten M N
each_passes M N (suc (suc (suc (suc (suc (suc (suc (suc (suc (suc (suc zero))))))))))) least most = eleven M N
each_passes M N (suc (suc (suc (suc (suc (suc (suc (suc (suc (suc (suc (suc zero)))))))))))) least most = twelve M N
each_passes M N (suc (suc (suc (suc (suc (suc (suc (suc (suc (suc (suc (suc (suc n))))))))))))) least most = absurd (omega (arith, most))

pub queens_short : (n : ℕ) → 4 ≤ n → n ≤ 12 → length (queens_text n) ≤ max_text
queens_short n least most = leb-true (length (queens_text n)) max_text (and_parts (nat_le (length (queens_text n)) max_text) _ (each_passes 0 0 n least most)).0

ascii_at : (bs : List ℕ) → all_ascii bs ≡ true → IsAscii bs
ascii_at [] h i = omega arith
ascii_at (b ∷ bs) h zero = ltb-true b 128 (and_parts (nat_lt b 128) (all_ascii bs) h).0
ascii_at (b ∷ bs) h (suc i) = ascii_at bs (and_parts (nat_lt b 128) (all_ascii bs) h).1 i

-- a program with one query
pub record OneQuery (M N : ℕ) (text : List ℕ) : Type 0 where
  pub program : Program
  pub query : Query
  pub verdict : IsVerdict M N text (accepted program)
  pub one : program.queries ≡ query ∷ []

only_query : (qs : List Query) → one_query qs ≡ true → (q : Query) × (qs ≡ q ∷ [])
only_query [] h = absurd (cc)
only_query (q ∷ []) h = (q, refl)
only_query (q ∷ p ∷ qs) h = absurd (cc)

none_left : (o : Option Refusal) → is_none o ≡ true → o ≡ None
none_left None h = refl
none_left (Some r) h = absurd (cc)

at_end : (f : Front) → is_end f ≡ true → f ≡ Ends
at_end Ends h = refl
at_end (Gap k) h = absurd (cc)
at_end (Token kind k) h = absurd (cc)
at_end (Offends cause k) h = absurd (cc)

-- terms and names, one of each for a sentence
paired_terms : (ts : List PlacedTerm) (ns : List (List Name)) → length ts ≡ length ns → map (λ s. s.term) (paired ts ns) ≡ ts
paired_terms [] ns e = refl
paired_terms (t ∷ ts) [] e = absurd (omega (arith, e))
paired_terms (t ∷ ts) (n ∷ ns) e = ap (λ l. t ∷ l) (paired_terms ts ns (omega (arith, e)))

paired_names : (ts : List PlacedTerm) (ns : List (List Name)) → length ts ≡ length ns → map (λ s. s.names) (paired ts ns) ≡ ns
paired_names [] [] e = refl
paired_names [] (n ∷ ns) e = absurd (omega (arith, e))
paired_names (t ∷ ts) [] e = absurd (omega (arith, e))
paired_names (t ∷ ts) (n ∷ ns) e = ap (λ l. n ∷ l) (paired_names ts ns (omega (arith, e)))

-- what is read where the terms pass
record AllRead (M N : ℕ) (ns : List (List Name)) (s : Option State) : Type 0 where
  pub terms : List PlacedTerm
  pub read : s ≡ Some (want (top terms))
  pub even : length (reverse terms) ≡ length ns
  pub pass : sentences_pass M N (paired (reverse terms) ns) ≡ true

all_read : (M N : ℕ) (ns : List (List Name)) (s : Option State) → terms_pass M N ns s ≡ true → AllRead M N ns s
all_read M N ns None h = absurd (cc)
all_read M N ns (Some (want (top ts))) h =
    let both = and_parts (nat_eq (length (reverse ts)) (length ns)) (sentences_pass M N (paired (reverse ts) ns)) h in
    record { terms = ts; read = refl; even = eqb-true (length (reverse ts)) (length ns) both.0; pass = both.1 }
all_read M N ns (Some (want (paren s))) h = absurd (cc)
all_read M N ns (Some (want (args p o l s))) h = absurd (cc)
all_read M N ns (Some (want (items p l s))) h = absurd (cc)
all_read M N ns (Some (want (tail p l s))) h = absurd (cc)
all_read M N ns (Some (want (curly p s))) h = absurd (cc)
all_read M N ns (Some (want (before p o q s))) h = absurd (cc)
all_read M N ns (Some (want (between p o t s))) h = absurd (cc)
all_read M N ns (Some (at_list p s)) h = absurd (cc)
all_read M N ns (Some (at_curly_bracket p s)) h = absurd (cc)
all_read M N ns (Some (at_operator p o s)) h = absurd (cc)
all_read M N ns (Some (after c s t)) h = absurd (cc)

-- a text that passes is a program with one query
passed : (M N : ℕ) (text : List ℕ) → passes M N text ≡ true → OneQuery M N text
passed M N text p =
    let l = lex 300 0 true text in
    let ts = terminals [] l.tokens in
    let ns = sentence_names [] l.tokens in
    let sized = and_parts (nat_le (length text) max_text) (all_ascii text && tokens_pass M N l) p in
    let plain = and_parts (all_ascii text) (tokens_pass M N l) sized.1 in
    let ends = and_parts (is_end (front_of l.rest)) (terminals_pass M N ns ts) plain.1 in
    let few = and_parts (nat_le (length ts) deepest) (terms_pass M N ns (run ts (want (top [])))) ends.1 in
    let r = all_read M N ns (run ts (want (top []))) few.1 in
    let ss = paired (reverse r.terms) ns in
    let same_terms : map (λ s. s.term) ss ≡ reverse r.terms = paired_terms (reverse r.terms) ns r.even in
    let turned : reverse (map (λ s. s.term) ss) ≡ r.terms = ap reverse same_terms ∙ reverse-reverse r.terms in
    let read : IsRead ts r.terms = record { text = sound ts r.terms r.read; shallow = shallow ts (leb-true (length ts) deepest few.0) } in
    let reading : IsSentences text ss =
    record {
      lexemes = l.tokens;
      tokens = lexed 300 0 true text (at_end (front_of l.rest) ends.0);
      terms = subst (IsRead ts) (sym turned) read;
      names = paired_names (reverse r.terms) ns r.even;
    } in
    let kept = and_parts (is_none (first_refusal M N (map (λ s. s.term) ss) (map (λ s. s.term) ss))) (one_query (program_of N ss).queries) r.pass in
    let only = only_query (program_of N ss).queries kept.1 in
    let refusal : first_refusal M N (map (λ s. s.term) ss) (map (λ s. s.term) ss) ≡ None = none_left _ kept.0 in
    record {
      program = program_of N ss;
      query = only.0;
      verdict = inr (inr (leb-true (length text) max_text sized.0, IsUtf8-from_ascii text (ascii_at text plain.0), (sentences ss, reading, sym (ap (sentences_verdict N ss) refusal))));
      one = only.1;
    }

-- the generator's texts are programs with one query
pub queens_program : (M N n : ℕ) → 4 ≤ n → n ≤ 12 → OneQuery M N (queens_text n)
queens_program M N n least most = passed M N (queens_text n) (each_passes M N n least most)
