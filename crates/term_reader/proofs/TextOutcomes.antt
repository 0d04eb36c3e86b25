-- Each text is sentences, or has a first fault.
use Rattle.std.proofs.Common.{◌≡◌, ℕ, zero, suc, ◌+◌, ◌<◌, ◌≤◌, ◌⊎◌, inl, inr, List, [], ◌∷◌, length, map, take, drop, Option, Some, None, refl, sym, ap, subst}
use Rattle.std.proofs.Common.{◌∙◌, arith}
use Rattle.std.specs.Prelude.{reverse}
use Rattle.std.proofs.lemmas.List.{take-append-drop, take_all, reverse-reverse}
use Rattle.std.proofs.lemmas.Bool.{cases_lt}
use Rattle.fd_language.specs.Term.{Name}
use Rattle.fd_language.specs.PlacedTerm.{PlacedTerm}
use Rattle.fd_language.specs.Terminals.{Terminal}
use Rattle.fd_language.specs.Tokens.{Lexeme, Cause, TokensOf, FaultOf}
use Rattle.fd_language.specs.Grammar.{IsText, Begins}
use Rattle.fd_language.specs.GrammarFaults.{deepest, brackets, IsShallow, IsRead, IsSyntaxFault, IsTooDeep}
use Rattle.fd_language.specs.Reading.{terminals, sentence_names, lexeme_place, Sentence, Reading, sentences, token_fault, syntax_fault, too_deep, IsReading}
use Rattle.fd_language.specs.ReadingSteps.{top, paren, args, items, tail, curly, before, between, State, want, at_list, at_curly_bracket, at_operator, after}
use Rattle.fd_language.specs.ReadingSteps.{run}
use Rattle.fd_language.proofs.Lemmas.{accepts, as_many, one_verdict}
use Rattle.term_reader.specs.Laws.{EachIsRead}
use Rattle.term_reader.proofs.Soundness.{sound}
use Rattle.term_reader.proofs.Completeness.{begins, begins_none}
use Rattle.term_reader.proofs.Readers.{start}

-- ---- the tokens of the grammar

-- what a list of tokens is
abbrev Verdict : List Terminal → Type 0
Verdict ts = ((terms : List PlacedTerm) × IsRead ts terms) ⊎ (((k : ℕ) × IsSyntaxFault ts k) ⊎ ((k : ℕ) × IsTooDeep ts k))

-- between two sentences, or within one
between_or_within : (st : State) → ((terms : List PlacedTerm) × (st ≡ want (top terms))) ⊎ ((terms : List PlacedTerm) → st ≡ want (top terms) → ⊥)
between_or_within (want (top ts)) = inl (ts, refl)
between_or_within (want (paren s)) = inr (λ terms e. cc)
between_or_within (want (args p a xs s)) = inr (λ terms e. cc)
between_or_within (want (items p xs s)) = inr (λ terms e. cc)
between_or_within (want (tail p xs s)) = inr (λ terms e. cc)
between_or_within (want (curly p s)) = inr (λ terms e. cc)
between_or_within (want (before p o f s)) = inr (λ terms e. cc)
between_or_within (want (between p f a s)) = inr (λ terms e. cc)
between_or_within (at_list p s) = inr (λ terms e. cc)
between_or_within (at_curly_bracket p s) = inr (λ terms e. cc)
between_or_within (at_operator p o s) = inr (λ terms e. cc)
between_or_within (after c s t) = inr (λ terms e. cc)

-- all tokens are taken
at_end : (ts : List Terminal) (st : State) → run ts start ≡ Some st → IsShallow ts (length ts) → Verdict ts
at_end ts st e shallow = go (between_or_within st)
  where
    go : ((terms : List PlacedTerm) × (st ≡ want (top terms))) ⊎ ((terms : List PlacedTerm) → st ≡ want (top terms) → ⊥) → Verdict ts
    go (inl w) = inl (w.0, record { text = sound ts w.0 (e ∙ ap (λ (s : State). Some s) w.1); shallow = shallow })
    go (inr within) = inr (inl (
      length ts,
      record {
        within = omega arith;
        fits = subst Begins (sym (take_all (length ts) ts (omega arith))) (begins ts st e);
        ends = λ b. refl;
        whole = λ terms d. within terms (let same : Some st ≡ Some (want (top terms)) = sym e ∙ accepts ts terms d in cc);
        shallow = shallow;
      },
    ))

-- the token behind the first i is refused
refused : (ts : List Terminal) (i : ℕ) (st : State) → i < length ts → run (take i ts) start ≡ Some st → IsShallow ts i → run (take (i + 1) ts) start ≡ None → IsSyntaxFault ts i
refused ts i st h e shallow dead = record {
  within = omega (arith, h);
  fits = begins (take i ts) st e;
  ends = λ b. absurd (begins_none (take (i + 1) ts) dead b);
  whole = λ terms d. begins_none (take (i + 1) ts) dead (drop (i + 1) ts, terms, subst (λ (l : List Terminal). IsText l terms) (sym (take-append-drop (i + 1) ts)) d);
  shallow = shallow;
}

shallow_none : (ts : List Terminal) → IsShallow ts 0
shallow_none ts zero le = omega arith
shallow_none ts (suc j) le = absurd (omega (arith, le))

shallow_next : (ts : List Terminal) (i : ℕ) → IsShallow ts i → brackets 0 (take (i + 1) ts) ≤ deepest → IsShallow ts (i + 1)
shallow_next ts i h k j le = go (cases_lt i j)
  where
    go : (i < j) ⊎ (j ≤ i) → brackets 0 (take j ts) ≤ deepest
    go (inl lt) = let same : j ≡ i + 1 = omega (arith, lt, le) in subst (λ (n : ℕ). brackets 0 (take n ts) ≤ deepest) (sym same) k
    go (inr small) = h j small

-- One more token is looked at. later is what is found behind it, where it is taken.
one_more : (i : ℕ) (ts : List Terminal) (st : State) → i < length ts → run (take i ts) start ≡ Some st → IsShallow ts i
    → ((st2 : State) → run (take (i + 1) ts) start ≡ Some st2 → IsShallow ts (i + 1) → Verdict ts) → Verdict ts
one_more i ts st h e shallow later = go (run (take (i + 1) ts) start) refl
  where
    by_depth : (st2 : State) → run (take (i + 1) ts) start ≡ Some st2 → (deepest < brackets 0 (take (i + 1) ts)) ⊎ (brackets 0 (take (i + 1) ts) ≤ deepest) → Verdict ts
    by_depth st2 taken (inl deep) = inr (inr (i, record { within = h; fits = begins (take (i + 1) ts) st2 taken; deep = deep; shallow = shallow }))
    by_depth st2 taken (inr fits) = later st2 taken (shallow_next ts i shallow fits)

    go : (o : Option State) → run (take (i + 1) ts) start ≡ o → Verdict ts
    go None dead = inr (inl (i, refused ts i st h e shallow dead))
    go (Some st2) taken = by_depth st2 taken (cases_lt deepest (brackets 0 (take (i + 1) ts)))

-- The first i tokens are taken, and left ones are not looked at.
from : (left i : ℕ) (ts : List Terminal) (st : State) → i + left ≡ length ts → run (take i ts) start ≡ Some st → IsShallow ts i → Verdict ts
from zero i ts st h e shallow =
    let all : i ≡ length ts = omega (arith, h) in
    at_end ts st (ap (λ (l : List Terminal). run l start) (sym (take_all i ts (omega (arith, all)))) ∙ e) (subst (IsShallow ts) all shallow)
from (suc left) i ts st h e shallow =
    one_more i ts st (omega (arith, h)) e shallow (λ st2 taken fits. from left (i + 1) ts st2 (omega (arith, h)) taken fits)

verdict : (ts : List Terminal) → Verdict ts
verdict ts = from (length ts) 0 ts start (omega arith) refl (shallow_none ts)

-- ---- sentences of terms and names

abbrev paired : List PlacedTerm → List (List Name) → List Sentence
paired [] ns = []
paired (t ∷ ts) [] = []
paired (t ∷ ts) (n ∷ ns) = record { term = t; names = n } ∷ paired ts ns

terms_of : (ts : List PlacedTerm) (ns : List (List Name)) → length ts ≡ length ns → map (λ s. s.term) (paired ts ns) ≡ ts
terms_of [] ns e = refl
terms_of (t ∷ ts) [] e = absurd (omega (arith, e))
terms_of (t ∷ ts) (n ∷ ns) e = ap (λ (us : List PlacedTerm). t ∷ us) (terms_of ts ns (omega (arith, e)))

names_of : (ts : List PlacedTerm) (ns : List (List Name)) → length ts ≡ length ns → map (λ s. s.names) (paired ts ns) ≡ ns
names_of [] [] e = refl
names_of [] (n ∷ ns) e = absurd (omega (arith, e))
names_of (t ∷ ts) [] e = absurd (omega (arith, e))
names_of (t ∷ ts) (n ∷ ns) e = ap (λ (ms : List (List Name)). n ∷ ms) (names_of ts ns (omega (arith, e)))

-- ---- the text

abbrev Readable : List ℕ → Type 0
Readable text = (v : Reading) × IsReading text v

with_terms : (text : List ℕ) (ls : List Lexeme) → TokensOf text ls → (terms : List PlacedTerm) → IsRead (terminals [] ls) terms → Readable text
with_terms text ls tokens terms r =
    let names = sentence_names [] ls in
    let many : length (reverse terms) ≡ length names = as_many ls terms r.text in
    let ss = paired (reverse terms) names in
    let same : reverse (map (λ s. s.term) ss) ≡ terms = ap reverse (terms_of (reverse terms) names many) ∙ reverse-reverse terms in
    (sentences ss, record { lexemes = ls; tokens = tokens; terms = subst (λ (us : List PlacedTerm). IsRead (terminals [] ls) us) (sym same) r; names = names_of (reverse terms) names many })

with_tokens : (text : List ℕ) (ls : List Lexeme) → TokensOf text ls → Verdict (terminals [] ls) → Readable text
with_tokens text ls tokens (inl w) = with_terms text ls tokens w.0 w.1
with_tokens text ls tokens (inr (inl w)) = (syntax_fault (lexeme_place ls (length text) w.0), record { lexemes = ls; tokens = tokens; number = w.0; fault = w.1; at = refl })
with_tokens text ls tokens (inr (inr w)) = (too_deep (lexeme_place ls (length text) w.0), record { lexemes = ls; tokens = tokens; number = w.0; fault = w.1; at = refl })

by_tokens : (text : List ℕ) → ((ls : List Lexeme) × TokensOf text ls) ⊎ ((cause : Cause) × (place : ℕ) × FaultOf text cause place) → Readable text
by_tokens text (inl w) = with_tokens text w.0 w.1 (verdict (terminals [] w.0))
by_tokens text (inr w) = (token_fault w.0 w.1, w.2)

pub each_is_read : EachIsRead
each_is_read text = by_tokens text (one_verdict.found text)
