-- What a constraint does to a branch.
use Rattle.std.specs.Prelude.{◌≡◌, ℕ, zero, suc, ◌+◌, ◌<◌, ◌≤◌, true, false, ℤ, List, [], ◌∷◌, ◌++◌, length, map, All, FitsSigned, Option, Some, ◌⊎◌, Result}
use Rattle.std.specs.Prelude.{Ok, Err}
use Rattle.std.specs.Int.{w64}
use Rattle.fd_language.specs.declared.TheConstants.{INFINITY}
use Rattle.fd_language.specs.Family.{has}
use Rattle.fd_language.specs.Range.{Indexical, params}
use Rattle.fd_language.specs.Term.{Name, Var, Substitution}
use Rattle.fd_model.specs.declared.kinds.ConstraintKind.{ConstraintKind}
use Rattle.fd_model.specs.declared.kinds.QueryFault.{QueryFault}
use Rattle.fd_model.specs.ClosedFamilies.{constrained, AllPosted}
use Rattle.fd_model.specs.ConstraintLaws.{AllFresh}
use Rattle.fd_model.specs.LinearRows.{Expansion}
use Rattle.heap_cells.specs.declared.Cell.{Cell}
use Rattle.heap_cells.specs.declared.Cell.TheVariants as cell
use Rattle.heap_cells.specs.Cells.{Cells, bound, is_bound, slot_at, with_slot, with_new_slot}
use Rattle.heap_cells.specs.Terms.{Naming, term_of}
use Rattle.branch_meaning.specs.Store as store
use Rattle.branch_meaning.specs.Store.{posts}
use Rattle.range_code.specs.declared.frame.Arg.TheVariants as arg
use Rattle.range_code.specs.Frames.{family_of}
use Rattle.range_code.specs.Slots.{slots_of}
use Rattle.propagate_queue.specs.Postings.{Posting}
use Rattle.unify_core.specs.declared.Touch.{Touch}
use Rattle.unify_core.specs.declared.Touch.TheVariants.{Value}
use Rattle.branch_lemmas.specs.Frames.{link_in}
use Rattle.branch_lemmas.specs.AtomNames.{full}
use Rattle.branch_lemmas.specs.Posting.{IsRowLinked}
use Rattle.branch_lemmas.specs.SeenHeap.{heap_row}
use Rattle.branch_state.specs.declared.step.Step.{Step}
use Rattle.branch_state.specs.declared.step.Step.TheVariants.{Kept, Failed, Fault}
use Rattle.branch_state.specs.StoreVariables.{or_zero}
use Rattle.branch_state.specs.VariableBounds.{PostsBounds}
use Rattle.branch_state.specs.States.{State, HasNoModel, IsSound, IsSoundBelow}

-- the row of the constraint, by the branch's heap and sets
abbrev pub row_of : List Name → State → ConstraintKind → Cell → Result Expansion QueryFault
row_of names s kind c = heap_row INFINITY s.heaps.now (family_of s.levels.current.sets) kind
    (term_of (full names) s.heaps.now c)

-- The constraint's row is linked on the heap now. The store's ranges are to be qs then, and the bounds of new variables.
pub record IsConstrained (names : List Name) (old : State) (kind : ConstraintKind) (c : Cell)
    (now : Cells) (qs : List Indexical) : Type 0 where
  pub row : Expansion
  pub is : row_of names old kind c ≡ Ok row
  pub link : ℕ → Option ℕ
  pub ranges : List Indexical
  pub new : Substitution
  pub touches : List store.Touch
  pub linked : IsRowLinked old.heaps.now now old.levels.current.posted row link ranges new touches
  pub after : qs ≡ ranges ++ posts touches

-- what the constraint did
abbrev pub Constrains : List Name → State → ConstraintKind → Cell → State → Step → Type 0
Constrains names old kind c new Kept = ((qs : List Indexical)
    × IsConstrained names old kind c new.heaps.now qs
    × PostsBounds old.infinity old.levels.current qs new.levels.current) × IsSound new
Constrains names old kind c new Failed = ((qs : List Indexical)
    × IsConstrained names old kind c new.heaps.now qs × HasNoModel old.infinity qs)
    × IsSoundBelow new
Constrains names old kind c new (Fault f) = (row_of names old kind c ≡ Err f) × (new ≡ old)

-- the variables that ranges name
abbrev pub variables_in : List Indexical → List ℕ
variables_in [] = []
variables_in (p ∷ ps) = (p.target ∷ slots_of p.range) ++ variables_in ps

-- the variables that are equated
abbrev pub firsts : List (ℕ × ℤ) → List ℕ
firsts [] = []
firsts (d ∷ ds) = d.0 ∷ firsts ds

-- the variable of the store of a variable of the heap
abbrev pub store_variable : Cells → ℕ → ℕ
store_variable h x = or_zero (link_in h x)

-- a range on variables of the heap, as it is posted
abbrev pub row_posting : (ℕ → ℕ) → Indexical → Posting
row_posting of p = record {
  range = p.range;
  target = of p.target;
  args = map (λ y. arg.Var (of y)) (slots_of p.range);
}

-- variables of the heap that get integers, as touches of the store
abbrev pub row_touches : (ℕ → ℕ) → List (ℕ × ℤ) → List Touch
row_touches of [] = []
row_touches of (d ∷ ds) = Value (of d.0) d.1 ∷ row_touches of ds

-- so many more variables, which are open
abbrev pub with_variables : ℕ → Cells → Cells
with_variables zero h = h
with_variables (suc n) h = with_new_slot (with_variables n h)

-- the variables are bound to their integers
abbrev pub with_integers : List (ℕ × ℤ) → Cells → Cells
with_integers [] h = h
with_integers (d ∷ ds) h = with_integers ds (with_slot h d.0 (bound (cell.Int d.1)))

-- the variables are those from n on
abbrev pub AreFrom : ℕ → List (ℕ × ℤ) → Type 0
AreFrom n [] = Unit {0}
AreFrom n (d ∷ ds) = (d.0 ≡ n) × AreFrom (suc n) ds

-- these are the heap's, and none is bound
abbrev pub AreOpen : ℕ → List (ℕ × ℤ) → Cells → Type 0
AreOpen n ds h = (x : ℕ) → n ≤ x → x < n + length ds → (x < length h.slots)
    × (is_bound (slot_at h x) ≡ false)

-- the variable is the heap's, and it isn't bound
pub record IsUnbound (h : Cells) (x : ℕ) : Type 0 where
  pub own : x < length h.slots
  pub term : (name : Naming) → term_of name h (cell.Ref x) ≡ Var x

abbrev pub AreUnbound : Cells → List ℕ → Type 0
AreUnbound h xs = (x : ℕ) → has xs x ≡ true → IsUnbound h x

-- the integers have 64 bits
abbrev pub AreWords : List (ℕ × ℤ) → Type 0
AreWords ds = All (λ d. FitsSigned w64 d.1) ds

-- each is linked to a variable of the store
abbrev pub AreLinked : Cells → List ℕ → Type 0
AreLinked h xs = (x : ℕ) → has xs x ≡ true → (k : ℕ) × (link_in h x ≡ Some k)

-- The row's variables are unbound ones of the heap or fresh, those that are equated are the first fresh ones, and no range has a parameter.
pub record IsRowOf (h : Cells) (y : Expansion) : Type 0 where
  pub grows : length h.slots ≤ y.fresh
  pub named : (x : ℕ) → has (constrained y.ranges) x ≡ true → IsUnbound h x
      ⊎ ((length h.slots ≤ x) × (x < y.fresh))
  pub equated : AreFrom (length h.slots) y.equated
  pub fresh : AllFresh (length h.slots) y.fresh y.ranges y.equated
  pub plain : AllPosted (λ p. params p.range ≡ []) y.ranges
