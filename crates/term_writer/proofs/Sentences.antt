-- A term's text with a stop behind it is a sentence with that term.
use Rattle.std.proofs.Common.{◌≡◌, ◌∙◌, ℕ, ◌≤◌, inl, inr, List, [], ◌∷◌, ◌++◌, Bool, true, false, Some, refl, sym, ap, ap₂, subst, arith}
use Rattle.std.specs.Prelude.{codes, slice_get, nat_le, ◌==◌}
use Rattle.std.specs.Str.{bytes_eq, chars}
use Rattle.std.proofs.lemmas.Bool.{true≢false, or_cases, eqb-true, leb-true}
use Rattle.unicode_ident.proofs.IdentLemmas.{is_xid_start-ascii}
use Rattle.fd_language.specs.Term.{Name, Term, Terms, Var, Int, Atom, Comp, no_terms, term, apply, apply_all}
use Rattle.fd_language.specs.PlacedTerm.{PlacedTerm, PlacedTerms, plain, all_plain}
use Rattle.fd_language.specs.Characters.{is_symbol, is_punct, begins_variable}
use Rattle.fd_language.specs.Operators.{Operator, prefix_operators, prefix_of}
use Rattle.fd_language.specs.Family.{has}
use Rattle.fd_language.specs.Variables.{variables_of, variables_of_all}
use Rattle.fd_language.specs.TermTexts.{Quoted, term_text, starts_with_symbol}
use Rattle.fd_language.specs.Tokens.{Stop, Token, front_at, ended, after_token}
use Rattle.fd_language.specs.Terminals.{Terminal, stop}
use Rattle.fd_language.specs.Grammar.{Reads, an_integer, a_negative, a_variable, an_atom, empty_list, empty_curly, named_call, operator_call, in_parens}
use Rattle.fd_language.specs.Grammar.{operator_in_parens, a_list, a_list_tail, in_curly, a_prefix, an_infix, none, next}
use Rattle.fd_language.specs.Reading.{terminals}
use Rattle.fd_language.proofs.Lemmas.{within_infix, has_either, front_empty}
use Rattle.term_writer.specs.SpelledTerms.{placed, all_placed, tokens_of, HasArguments, AllHaveArguments, Within}
use Rattle.term_writer.specs.TextReadings.{IsReadable, AllReadable, number_among, Derives, IsSentenceOf, WrittenIsRead}
use Rattle.term_writer.proofs.Derivations.{spelled_is_read}
use Rattle.term_writer.proofs.OtherPlaces.{IsNumbered, and, no_token, like_stop, Stands, same_var, same_int, same_atom, same_comp, AllStand, same_none}
use Rattle.term_writer.proofs.OtherPlaces.{same_part, Moved, moved, move}
use Rattle.term_writer.proofs.TextTokens.{at_end, at_stop, Lexes, LexesAt, ascii_front, space, Follows, before_space}
use Rattle.term_writer.proofs.BareWords.{found_in}
use Rattle.term_writer.proofs.TermTokens.{no_symbol, apart_from}
use Rattle.term_writer.proofs.Joins.{symbol_space}
use Rattle.std.proofs.lemmas.Str.{chars-nil}
use Rattle.std.proofs.lemmas.List.{append-nil}
use Rattle.term_writer.proofs.Fronts.{Ends}
use Rattle.term_writer.proofs.Compounds.{lexed}
use Rattle.term_writer.proofs.Numbers.{final, numbered, one_sentence}

-- ---- priorities

abbrev row_within : Operator → Bool
row_within f = nat_le f.priority 1200

within_prefix : (o : Name) (f : Operator) → prefix_of o ≡ Some f → f.priority ≤ 1200
unfolding prefix_of
within_prefix o f e = leb-true f.priority 1200 (found_in row_within prefix_operators (λ g. bytes_eq g.name o) f refl e)

within_all : {ts rest : List Terminal} {q : ℕ} {t : PlacedTerm} → Reads ts rest q t → q ≤ 1200
within_all an_integer = omega arith
within_all (a_negative m) = omega arith
within_all a_variable = omega arith
within_all an_atom = omega arith
within_all empty_list = omega arith
within_all empty_curly = omega arith
within_all (named_call d) = omega arith
within_all (operator_call d) = omega arith
within_all (in_parens d l) = omega arith
within_all operator_in_parens = omega arith
within_all (a_list d) = omega arith
within_all (a_list_tail d e) = omega arith
within_all (in_curly d l) = omega arith
within_all (a_prefix {o = o} f e m d l) = within_prefix o f e
within_all (an_infix {x = x} f e d l d2 l2) = within_infix x f e

-- ---- what stands for a term

mutual
  arguments_of : (vars : ℕ → List ℕ) (t : Term) → IsReadable vars t → HasArguments t
  arguments_of vars (Var x) h = tt
  arguments_of vars (Int z) h = tt
  arguments_of vars (Atom a) h = tt
  arguments_of vars (Comp f no_terms) h = h
  arguments_of vars (Comp f (term t ts)) h = (arguments_of vars t h.1, all_arguments vars ts h.2)

  all_arguments : (vars : ℕ → List ℕ) (ts : Terms) → AllReadable vars ts → AllHaveArguments ts
  all_arguments vars no_terms h = tt
  all_arguments vars (term t ts) h = (arguments_of vars t h.0, all_arguments vars ts h.1)

module _ (vars : ℕ → List ℕ) (names : List Name) where
  mutual
    stands_same : (t : Term) {u : PlacedTerm} → Stands vars names (placed t) u → plain u ≡ apply (λ x. Var (number_among vars names x)) t
    stands_same (Var x) (same_var n) = ap Var n.number
    stands_same (Int z) same_int = refl
    stands_same (Atom a) same_atom = refl
    stands_same (Comp f ts) (same_comp s) = ap (Comp f) (all_same ts s)

    all_same : (ts : Terms) {us : PlacedTerms} → AllStand vars names (all_placed ts) us → all_plain us ≡ apply_all (λ x. Var (number_among vars names x)) ts
    all_same no_terms same_none = refl
    all_same (term t ts) (same_part s ss) = ap₂ term (stands_same t s) (all_same ts ss)

  named_here : (y x m : ℕ) → IsNumbered vars names y m → (y == x) ≡ true → slice_get names (number_among vars names x) ≡ Some (vars x)
  named_here y x m n e =
      let same : y ≡ x = eqb-true y x e in
      subst (λ (z : ℕ). slice_get names (number_among vars names z) ≡ Some (vars z)) same (ap (slice_get names) (sym n.number) ∙ n.named)

  mutual
    stands_named : (t : Term) {u : PlacedTerm} → Stands vars names (placed t) u → (x : ℕ) → has (variables_of t) x ≡ true → slice_get names (number_among vars names x) ≡ Some (vars x)
    stands_named (Var y) (same_var {m = m} n) x h = elim (or_cases (y == x) false h) [ inl e ↦ named_here y x m n e | inr e ↦ absurd (true≢false (sym e)) ]
    stands_named (Int z) same_int x h = absurd (true≢false (sym h))
    stands_named (Atom a) same_atom x h = absurd (true≢false (sym h))
    stands_named (Comp f ts) (same_comp s) x h = all_named ts s x h

    all_named : (ts : Terms) {us : PlacedTerms} → AllStand vars names (all_placed ts) us → (x : ℕ) → has (variables_of_all ts) x ≡ true → slice_get names (number_among vars names x) ≡ Some (vars x)
    all_named no_terms same_none x h = absurd (true≢false (sym h))
    all_named (term t ts) (same_part s ss) x h = elim (has_either (variables_of t) (variables_of_all ts) x h) [ inl e ↦ stands_named t s x e | inr e ↦ all_named ts ss x e ]

-- ---- the end of a sentence

stop_front : front_at 46 (chars []) ≡ Token Stop 1
unfolding is_symbol is_punct begins_variable chars
stop_front = rw (is_xid_start-ascii 46 (omega arith)) refl

stop_lexes : (vars : ℕ → List ℕ) (tight : Bool) → Lexes vars true tight (46 ∷ []) (stop ∷ [])
stop_lexes vars tight = record {
  by = λ at. record {
    lexemes = record { kind = Stop; text = 46 ∷ []; place = at; tight = tight } ∷ [];
    tokens = after_token Stop 1 (ascii_front Stop 46 [] (omega arith) stop_front) (ended front_empty);
    spelt = at_stop refl;
  };
}

-- the text of a sentence
sentence_lexes : (vars : ℕ → List ℕ) (limit : ℕ) (t : Term) → IsReadable vars t → Lexes vars true true (term_text Quoted vars limit t ++ codes " .") ((tokens_of t).at true limit (stop ∷ []))
sentence_lexes vars limit t h =
    (lexed vars true t h).at true true limit (32 ∷ 46 ∷ []) (stop ∷ []) (inl refl) (before_space (46 ∷ [])) (no_symbol 32 symbol_space (term_text Quoted vars limit t) (46 ∷ []))
    (space vars true true (46 ∷ []) (stop ∷ []) (stop_lexes vars false))

-- ---- a term's text alone

end_lexes : (vars : ℕ → List ℕ) → Lexes vars false true [] []
end_lexes vars = record { by = λ at. record { lexemes = []; tokens = ended front_empty; spelt = at_end } }

before_end : Follows []
before_end = record { ends = subst Ends (sym chars-nil) (record { word = tt; quote = refl; fraction = refl }); symbols = ap starts_with_symbol chars-nil }

text_lexes : (vars : ℕ → List ℕ) (limit : ℕ) (t : Term) → IsReadable vars t → Lexes vars false true (term_text Quoted vars limit t) ((tokens_of t).at true limit [])
text_lexes vars limit t h =
    subst (λ (w : List ℕ). Lexes vars false true w ((tokens_of t).at true limit [])) (append-nil (term_text Quoted vars limit t))
    ((lexed vars false t h).at true true limit [] [] (inl refl) before_end (apart_from (term_text Quoted vars limit t) [] refl) (end_lexes vars))

-- ---- what is derived

module _ (vars : ℕ → List ℕ) (limit : ℕ) (t : Term) (text : List ℕ) (stopped : Bool) (behind : List Terminal) (l : LexesAt vars stopped 0 true text ((tokens_of t).at true limit behind)) where
  abbrev found : List Terminal
  found = terminals [] l.lexemes

  abbrev names : List Name
  names = final l.spelt []

  derives_as : (q : ℕ) → q ≤ limit → (u : PlacedTerm) → Reads found behind q u → Stands vars names (placed t) u → Derives vars limit t text behind
  derives_as q le u d s = record {
    lexemes = l.lexemes;
    tokens = l.tokens;
    sentence = record { term = u; names = names };
    derived = record { priority = q; fits = le; reads = d };
    same = stands_same vars names t s;
    named = stands_named vars names t s;
  }

  -- the reading of the tokens that spell the term
  spelled : IsReadable vars t → Within ((tokens_of t).at true limit behind) behind limit (placed t)
  spelled h = spelled_is_read t (arguments_of vars t h) true limit behind

  moved_reading : (w : Within ((tokens_of t).at true limit behind) behind limit (placed t)) → Moved vars names found behind w.priority (placed t)
  moved_reading w = move vars names w.reads found (numbered vars l.spelt [])

module _ (vars : ℕ → List ℕ) (limit : ℕ) (t : Term) (text : List ℕ) (l : LexesAt vars false 0 true text ((tokens_of t).at true limit [])) where
  alone_by : (q : ℕ) → q ≤ limit → Moved vars (final l.spelt []) (terminals [] l.lexemes) [] q (placed t) → Derives vars limit t text []
  alone_by q le (moved {u = u} no_token d s) = derives_as vars limit t text false [] l q le u d s

module _ (vars : ℕ → List ℕ) (limit : ℕ) (t : Term) (text : List ℕ) (l : LexesAt vars true 0 true text ((tokens_of t).at true limit (stop ∷ []))) where
  sentence_of : (q : ℕ) → q ≤ limit → (u : PlacedTerm) → Reads (terminals [] l.lexemes) (stop ∷ []) q u → Stands vars (final l.spelt []) (placed t) u → IsSentenceOf vars limit t text
  unfolding derives_as
  sentence_of q le u d s = record {
    derives = derives_as vars limit t text true (stop ∷ []) l q le u d s;
    read = λ k. record { lexemes = l.lexemes; tokens = l.tokens; terms = record { text = next none d (within_all d); shallow = k }; names = sym (one_sentence vars l.spelt []) };
  }

  sentence_by : (q : ℕ) → q ≤ limit → Moved vars (final l.spelt []) (terminals [] l.lexemes) (stop ∷ []) q (placed t) → IsSentenceOf vars limit t text
  sentence_by q le (moved {u = u} (and like_stop no_token) d s) = sentence_of q le u d s

text_is_read : (vars : ℕ → List ℕ) (limit : ℕ) (t : Term) → IsReadable vars t → Derives vars limit t (term_text Quoted vars limit t) []
text_is_read vars limit t h =
    let text : List ℕ = term_text Quoted vars limit t in
    let l : LexesAt vars false 0 true text ((tokens_of t).at true limit []) = (text_lexes vars limit t h).by 0 in
    let w : Within ((tokens_of t).at true limit []) [] limit (placed t) = spelled vars limit t text false [] l h in
    alone_by vars limit t text l w.priority w.fits (moved_reading vars limit t text false [] l w)

sentence_is_read : (vars : ℕ → List ℕ) (limit : ℕ) (t : Term) → IsReadable vars t → IsSentenceOf vars limit t (term_text Quoted vars limit t ++ codes " .")
sentence_is_read vars limit t h =
    let text : List ℕ = term_text Quoted vars limit t ++ codes " ." in
    let l : LexesAt vars true 0 true text ((tokens_of t).at true limit (stop ∷ [])) = (sentence_lexes vars limit t h).by 0 in
    let w : Within ((tokens_of t).at true limit (stop ∷ [])) (stop ∷ []) limit (placed t) = spelled vars limit t text true (stop ∷ []) l h in
    sentence_by vars limit t text l w.priority w.fits (moved_reading vars limit t text true (stop ∷ []) l w)

pub written_is_read : WrittenIsRead
written_is_read = record { text = text_is_read; sentence = sentence_is_read }
