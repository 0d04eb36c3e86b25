-- How the machine goes on.
use Rattle.std.specs.Prelude.{ℕ, List, ◌++◌}
use Rattle.fd_language.specs.Family.{Family}
use Rattle.fd_language.specs.Range.{Indexical}
use Rattle.fd_model.specs.Goal.{Branch}
use Rattle.fd_model.specs.Models.{IsModel}
use Rattle.heap_cells.specs.declared.Cell.{Cell}
use Rattle.heap_cells.specs.Cells.{Cells}
use Rattle.heap_cells.specs.Terms.{Naming}
use Rattle.unify_core.specs.declared.Touch.{Touch}
use Rattle.unify_core.specs.PairReduction.{IsSameSize}
use Rattle.unify_core.specs.Touches.{IsRefuted}
use Rattle.unify_core.specs.Unifications as core
use Rattle.unify_core.specs.Unifications.{cells_equal}
use Rattle.branch_meaning.specs.Store.{posts}
use Rattle.branch_lemmas.specs.Frames.{store_touches}
use Rattle.wam_code.specs.Area.{Area}
use Rattle.code_meaning.specs.Registers.{Registers, Saved}
use Rattle.code_meaning.specs.StateMeaning.{Stands}

-- Two cells are to be equal: where they are unified, what was touched is posted and the machine goes on at the place to; where they can't be, the branch has no
-- model.
pub record GoesOnEqual (M N : ℕ) (marks : List ℕ) (area : Area) (shown : List ℕ) (name : Naming) (h : Cells) (qs : List Indexical) (to : ℕ) (c : Registers)
    (stack : List Saved) (b : Branch) (d e : Cell) : Type 0 where
  pub unified : (now : Cells) (ts : List Touch) → core.IsUnified name h d e now ts → IsSameSize h now → Stands M N marks area shown name now (qs ++ posts (store_touches ts)) to c stack b
  pub refuted : IsRefuted h (cells_equal name h d e) → (S : Family) → IsModel M N b.equations b.posted S → ⊥
