-- Domains as lists of intervals.
use Rattle.std.proofs.Common.{◌≡◌, ℕ, ◌<◌, ℤ, pos, List, [], ◌∷◌, ◌++◌, map, Ok, refl, ap, sym, subst, ◌∙◌, arith}
use Rattle.fd_language.specs.declared.TheConstants.{INFINITY}
use Rattle.domain_ranges.specs.Spans.{IsSpans, members}
use Rattle.machine_events.proofs.Lemmas.{span_intervals}
use Rattle.fd_language.specs.Family.{Family}
use Rattle.fd_language.specs.SingleValues.{value_at}
use Rattle.fd_language.specs.Term.{Term, Var, Int, Atom, Comp}
use Rattle.fd_language.proofs.Lemmas.{two}
use Rattle.fd_model.specs.Builtins.{those, two_terms, interval_list, interval_terms, equated, equals_number, numbers_of, set_numbers, Numbers}
use Rattle.fd_model.specs.declared.kinds.BuiltinKind.TheVariants.{FdDom}
use Rattle.fd_model.specs.Lines.{Interval, intervals}
use Rattle.term_pool.specs.declared.TheConstants.{NIL, CONS, SPAN}
use Rattle.heap_cells.specs.declared.Cell.{Cell}
use Rattle.heap_cells.specs.declared.Cell.TheVariants as cell
use Rattle.heap_cells.specs.Cells.{Cells, IsOf}
use Rattle.heap_cells.specs.SeenTerms.{link_in, link_of, read_term, seen_term}
use Rattle.heap_cells.specs.Terms.{Naming, term_of}
use Rattle.heap_cells.proofs.Lemmas.{term-Int, term-Atom, same_apply}
use Rattle.range_code.specs.Frames.{family_of}
use Rattle.branch_meaning.specs.HeldBranches.{link_at}
use Rattle.branch_meaning.specs.AnswerTexts.{cell_set}
use Rattle.branch_lemmas.specs.Frames.{IsGrown}
use Rattle.branch_lemmas.proofs.Lemmas.{grown_both, grown_same, of_grown}
use Rattle.branch_state.specs.Compounds.{IsMade}
use Rattle.branch_state.specs.States.{State, IsCell, IsSound, with_heap}
use Rattle.branch_goals.specs.declared.builtin_findings.Found.TheVariants.{Equal}
use Rattle.branch_goals.specs.Findings.{Finds, numbers_at}
use Rattle.branch_goals.specs.Domains.{AreSpans, AreSpansOf, IsSpanList, IsSpanNaming, span_of, spans_term}
use Rattle.std.proofs.lemmas.List.{append-nil, append_assoc}

-- ---- lists of spans

-- the first spans are still to be listed
pub record IsListing (old : State) (spans left : List (ℤ × ℤ)) (now : State) (c : Cell) : Type 0 where
  pub done : List (ℤ × ℤ)
  pub all : spans ≡ left ++ done
  pub list : IsSpanList old done now c

pub listing_start : (old : State) (spans : List (ℤ × ℤ)) → IsSound old → 2 < old.atoms → IsListing old spans spans old (cell.Atom NIL)
listing_start old spans sound atoms = record {
  done = [];
  all = sym (append-nil spans);
  list = record {
    own = (tt, omega (arith, atoms));
    term = λ name. term-Atom name old.heaps.now sound.now.valid NIL;
    grown = grown_same old.heaps.now;
    heap = refl;
    sound = sound;
  };
}

heap_twice : (old mid now : State) → mid ≡ with_heap old mid.heaps.now → now ≡ with_heap mid now.heaps.now → now ≡ with_heap old now.heaps.now
heap_twice old mid now e f = f ∙ ap (λ s. with_heap s now.heaps.now) e

pub listing_more : (old : State) (spans left rest : List (ℤ × ℤ)) (s : ℤ × ℤ) (now : State) (list : Cell) → IsListing old spans left now list → left ≡ rest ++ s ∷ []
    → (mid : State) (interval : Cell) → IsMade SPAN (cell.Int s.0 ∷ cell.Int s.1 ∷ []) now mid interval → mid ≡ with_heap now mid.heaps.now → IsSound mid
    → (end : State) (next : Cell) → IsMade CONS (interval ∷ list ∷ []) mid end next → end ≡ with_heap mid end.heaps.now → IsSound end
    → IsListing old spans rest end next
listing_more old spans left rest s now list l e mid interval m mid_is mid_sound end next n end_is end_sound =
    let by = l.list in
    let kept : (name : Naming) → term_of name mid.heaps.now list ≡ spans_term name l.done = λ name. m.grown.terms name list by.own.0 ∙ by.term name in
    let span : (name : Naming) → term_of name mid.heaps.now interval ≡ Comp (name SPAN) (two_terms (Int s.0) (Int s.1)) =
    λ name. m.term name ∙ two (λ x y. Comp (name SPAN) (two_terms x y)) (term-Int name now.heaps.now by.sound.now.valid s.0) (term-Int name now.heaps.now by.sound.now.valid s.1) in
    record {
      done = s ∷ l.done;
      all = l.all ∙ ap (λ xs. xs ++ l.done) e ∙ append_assoc rest (s ∷ []) l.done;
      list = record {
        own = n.own;
        term = λ name. n.term name ∙ two (λ x y. Comp (name CONS) (two_terms x y)) (span name) (kept name);
        grown = grown_both old.heaps.now mid.heaps.now end.heaps.now (grown_both old.heaps.now now.heaps.now mid.heaps.now by.grown m.grown) n.grown;
        heap = heap_twice old mid end (heap_twice old now mid by.heap mid_is) end_is;
        sound = end_sound;
      };
    }

-- ---- what they are by the definition

spans_list : (name : Naming) → IsSpanNaming name → (is : List Interval) → spans_term name (map span_of is) ≡ interval_terms is
spans_list name n [] = ap Atom n.0.nil
spans_list name n (i ∷ is) = two (λ f t. Comp f t) n.0.cons (two two_terms (ap (λ f. Comp f (two_terms (Int (pos i.low)) (Int (pos i.high)))) n.1) (spans_list name n is))

pub those_spans : (xs : List ℕ) (spans : List (ℤ × ℤ)) → AreSpansOf xs spans → AreSpans (those xs) spans
those_spans xs spans e name n = ap (spans_term name) e ∙ spans_list name n (intervals xs)

-- ---- a heap that has grown

module _ (name : Naming) (old now : Cells) (g : IsGrown old now) (sets : List (List ℕ)) (c : Cell) (own : IsOf old c) where
  abbrev G : Family
  G = family_of sets

  shown_grown : seen_term name now G c ≡ seen_term name old G c
  shown_grown =
      same_apply (λ d. value_at (link_in now d) G d) (λ d. value_at (link_in old d) G d) (λ d. ap (λ s. value_at (link_of s) G d) (g.slots d))
      (term_of name now c)
      ∙ ap (read_term old G) (g.terms name c own)

  given_grown : (t : Term) → numbers_of (λ d. cell_set G (link_at (link_in now d) G)) t ≡ numbers_of (λ d. cell_set G (link_at (link_in old d) G)) t
  given_grown (Var x) = ap (λ s. set_numbers (cell_set G (link_at (link_of s) G))) (g.slots x)
  given_grown (Int z) = refl
  given_grown (Atom a) = refl
  given_grown (Comp f ts) = refl

  numbers_grown : numbers_at name now sets c ≡ numbers_at name old sets c
  numbers_grown = given_grown (seen_term name now G c) ∙ ap (numbers_of (λ d. cell_set G (link_at (link_in old d) G))) shown_grown

-- The list of its intervals is what `fd_dom` comes to, on the heap that has it.
pub domain_told : (name : Naming) (old now : State) (of is : Cell) → IsSpanNaming name → IsCell old of → IsCell old is → (ns : Numbers)
    → numbers_at name old.heaps.now old.levels.current.sets of ≡ Ok ns → (spans : List (ℤ × ℤ)) → AreSpans ns spans
    → (c : Cell) → IsSpanList old spans now c → Finds name now FdDom of is (Equal is c)
domain_told name old now of is n own own_is ns e spans a c l = (
  subst (λ (s : State). IsCell s is) (sym l.heap) (of_grown old.heaps.now now.heaps.now l.grown is own_is.0, own_is.1),
  l.own,
  ap (equals_number interval_list (term_of name now.heaps.now is))
      (ap (λ (s : State). numbers_at name now.heaps.now s.levels.current.sets of) l.heap
      ∙ numbers_grown name old.heaps.now now.heaps.now l.grown old.levels.current.sets of own.0 ∙ e)
      ∙ ap (equated (term_of name now.heaps.now is)) (sym (l.term name ∙ a name n)),
)

-- ---- the spans of a domain

abbrev pub whole_numbers : ℕ × ℕ → ℤ × ℤ
whole_numbers s = (pos s.0, pos s.1)

pub spans_are : (xs : List ℕ) (spans : List (ℕ × ℕ)) → IsSpans 0 INFINITY spans → members spans ≡ xs → AreSpansOf xs (map whole_numbers spans)
spans_are xs spans s e =
    each spans ∙ ap (map span_of) (sym (span_intervals 0 INFINITY spans s) ∙ ap intervals e)
  where
    each : (ss : List (ℕ × ℕ)) → map whole_numbers ss ≡ map span_of (map (λ s. record { low = s.0; high = s.1 }) ss)
    each [] = refl
    each (s ∷ ss) = ap (λ r. (pos s.0, pos s.1) ∷ r) (each ss)
