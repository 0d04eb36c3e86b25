-- Domains as lists of intervals.
use Rattle.std.specs.Prelude.{◌≡◌, ℕ, ℤ, pos, codes, List, [], ◌∷◌, map}
use Rattle.fd_language.specs.Term.{Term, Int, Atom, Comp}
use Rattle.fd_model.specs.Builtins.{Numbers, two_terms, interval_list}
use Rattle.fd_model.specs.Lines.{Interval, intervals}
use Rattle.term_pool.specs.declared.TheConstants.{NIL, CONS, SPAN}
use Rattle.heap_cells.specs.declared.Cell.{Cell}
use Rattle.heap_cells.specs.Terms.{Naming, term_of}
use Rattle.branch_lemmas.specs.Frames.{IsGrown}
use Rattle.branch_state.specs.States.{State, IsCell, IsSound, with_heap}
use Rattle.branch_goals.specs.Lists.{IsListNaming}

-- the names of the atoms of lists and of intervals
abbrev pub IsSpanNaming : Naming → Type 0
IsSpanNaming name = IsListNaming name × (name SPAN ≡ codes "..")

abbrev pub span_of : Interval → ℤ × ℤ
span_of i = (pos i.low, pos i.high)

-- the spans are the intervals of a set
abbrev pub AreSpansOf : List ℕ → List (ℤ × ℤ) → Type 0
AreSpansOf xs spans = spans ≡ map span_of (intervals xs)

-- the list of spans as a term
abbrev pub spans_term : Naming → List (ℤ × ℤ) → Term
spans_term name [] = Atom (name NIL)
spans_term name (s ∷ ss) = Comp (name CONS)
    (two_terms (Comp (name SPAN) (two_terms (Int s.0) (Int s.1))) (spans_term name ss))

-- the spans are those of the numbers
abbrev pub AreSpans : Numbers → List (ℤ × ℤ) → Type 0
AreSpans ns spans = (name : Naming) → IsSpanNaming name → spans_term name spans ≡ interval_list ns

-- The cell stands for the list of the spans, on a heap with more compound terms.
pub record IsSpanList (old : State) (spans : List (ℤ × ℤ)) (now : State) (c : Cell) : Type 0 where
  pub own : IsCell now c
  pub term : (name : Naming) → term_of name now.heaps.now c ≡ spans_term name spans
  pub grown : IsGrown old.heaps.now now.heaps.now
  pub heap : now ≡ with_heap old now.heaps.now
  pub sound : IsSound now
