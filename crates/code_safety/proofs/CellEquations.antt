-- Cells of a branch that are made equal.
use Rattle.std.proofs.Common.{◌≡◌, ◌++◌, length, Bool, true, false, List, [], Result, Ok, Err, IfOk, ap, sym, ◌∙◌, subst, inr}
use Rattle.fd_language.specs.declared.TheConstants.{INFINITY}
use Rattle.fd_language.proofs.Lemmas.{two}
use Rattle.fd_model.specs.Levels.{Levels}
use Rattle.heap_cells.specs.declared.Cell.{Cell}
use Rattle.heap_cells.specs.Atoms.{IsAtomBelow}
use Rattle.heap_cells.specs.Cells.{Heaps}
use Rattle.heap_cells.proofs.Lemmas.{of_same}
use Rattle.branch_meaning.specs.Store.{posts}
use Rattle.branch_lemmas.specs.Frames.{store_touches}
use Rattle.unify_core.specs.declared.Touch.{Touch}
use Rattle.unify_core.specs.Outcome.{IfTrue, IfFalse}
use Rattle.unify_core.specs.PairReduction.{IsSameSize}
use Rattle.unify_core.specs.Unifications.{AreUnified, IsEqualled}
use Rattle.branch_state.specs.States.{State, IsCell, IsSound, IsSoundBelow, HasNoModel, with_heap}
use Rattle.branch_state.specs.Steps.{posted_with}
use Rattle.code_safety.specs.CellEquations.{AreEquated, HasNoModelFor, Equates}

-- a unification, and the post of its touches
module _ (old mid new : State) (a b : Cell) (before after posted : List Touch) (empty : before ≡ []) (given : posted ≡ after)
    (equal : IsEqualled old.heaps.now a b mid.heaps.now before after) (heap : mid ≡ with_heap old mid.heaps.now) where
  told_is : posted ≡ equal.more
  told_is = given ∙ equal.touches ∙ ap (λ l. l ++ equal.more) empty

  with_is : posted_with mid posted ≡ posted_with old equal.more
  with_is = two (λ (l : Levels) ts. l.current.posted ++ posts (store_touches ts)) (ap (λ (s : State). s.levels) heap) told_is

  module _ (same : new.heaps ≡ mid.heaps) where
    equated_yes : new.levels.current.posted ≡ posted_with mid posted → IsSound new → AreEquated old a b new
    equated_yes e sound = record {
      touches = equal.more;
      unified = subst (λ (h : Heaps). AreUnified old.heaps.now a b h.now equal.more) (sym same) equal.unified;
      size = subst (λ (h : Heaps). IsSameSize old.heaps.now h.now) (sym same) equal.size;
      posted = e ∙ with_is;
      sound = sound;
    }

    equated_no : HasNoModel INFINITY (posted_with mid posted) → HasNoModelFor old a b
    equated_no none = record { now = mid.heaps.now; touches = equal.more; unified = equal.unified; size = equal.size; none = subst (HasNoModel INFINITY) with_is none }

    pub equated : {E : Type 0} → (r : Result Bool E) → IfTrue r (new.levels.current.posted ≡ posted_with mid posted)
        → IfFalse r (HasNoModel INFINITY (posted_with mid posted)) → IfTrue r (IsSound new) → IfFalse r (IsSoundBelow new) → IfOk r (Equates old a b new)
    equated (Ok true) e none sound below = equated_yes e sound
    equated (Ok false) e none sound below = (inr (equated_no none), below)
    equated (Err x) e none sound below = tt

-- the cells of the branch stay its cells
pub same_cells : (old new : State) → new.atoms ≡ old.atoms → IsSameSize old.heaps.now new.heaps.now → (d : Cell) → IsCell old d → IsCell new d
same_cells old new atoms size d o = (of_same old.heaps.now new.heaps.now d (sym size.slots) (sym (ap length size.compounds)) o.0, subst (λ n. IsAtomBelow n d) (sym atoms) o.1)
