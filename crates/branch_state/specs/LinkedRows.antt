-- A constraint's row that is linked and listed.
use Rattle.std.specs.Prelude.{◌≡◌, ℕ, ◌-◌, List, [], length, map}
use Rattle.fd_language.specs.Term.{Var}
use Rattle.fd_model.specs.LinearRows.{Expansion}
use Rattle.heap_cells.specs.Cells.{Cells}
use Rattle.propagate_queue.specs.declared.instance.Instance.{Instance}
use Rattle.propagate_queue.specs.Instances.{posting}
use Rattle.unify_core.specs.declared.Touch.{Touch}
use Rattle.branch_state.specs.Constraints.{variables_in, store_variable, row_posting, row_touches, with_variables, with_integers}
use Rattle.branch_state.specs.PostingLists.{AreSamePostings}
use Rattle.branch_state.specs.StoreVariables.{IsNaming}

-- The row's variables are linked, what it posts is listed, and the equated variables are bound.
pub record IsRowReady (h : Cells) (sets : List (List ℕ)) (y : Expansion) (now : Cells)
    (S : List (List ℕ)) (list : List Instance) (fixed : List Touch) : Type 0 where
  pub middle : Cells
  pub naming : IsNaming Var (with_variables (y.fresh - length h.slots) h) sets
      (variables_in y.ranges) middle S [] []
  pub bound_now : now ≡ with_integers y.equated middle
  pub list_is : AreSamePostings (map posting list)
      (map (row_posting (store_variable middle)) y.ranges)
  pub touches : fixed ≡ row_touches (store_variable middle) y.equated
