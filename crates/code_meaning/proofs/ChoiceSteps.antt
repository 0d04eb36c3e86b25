-- The steps of choices and switches, by the whole state.
use Rattle.std.proofs.Common.{◌≡◌, ℕ, suc, List, ◌∷◌, Option, Some}
use Rattle.fd_language.specs.Range.{Indexical}
use Rattle.fd_model.specs.Goal.{Program, Query, Event}
use Rattle.heap_cells.specs.declared.Cell.{Cell}
use Rattle.heap_cells.specs.Cells.{Cells}
use Rattle.heap_cells.specs.Terms.{Naming, term_of}
use Rattle.wam_code.specs.declared.instruction.Code.TheVariants.{TryMeElse}
use Rattle.wam_code.specs.Area.{Area, Holds}
use Rattle.wam_code.specs.Tries.{Shape, shape_of}
use Rattle.code_meaning.specs.Registers.{Registers, Saved}
use Rattle.code_meaning.specs.MachineStates.{resume, Choice, Runs}
use Rattle.code_meaning.proofs.MachineStates.{runs_both}
use Rattle.code_meaning.proofs.ClauseChoices.{step_try_me_else}

module _ (M N : ℕ) (area : Area) (prog : Program) (q : Query) (name : Naming) (cs : List Choice) (n : ℕ) (k : Option ℕ) (es : List Event) (r : ℕ) (h : Cells)
    (qs : List Indexical) (at : ℕ) (c : Registers) (stack : List Saved) (m : Runs M N area prog q name h qs at c stack cs n k es r) where
  abbrev On : ℕ → List Choice → Type 0
  On to ds = Runs M N area prog q name h qs to c stack ds n k es r

  -- the choice point that comes back to a place
  abbrev pub back_to : ℕ → Choice
  back_to to = record { left = resume to; registers = c; stack = stack; heap = h; store = qs }

  pub run_try_me_else : (to : ℕ) → Holds area at (TryMeElse to) → On (suc at) (back_to to ∷ cs)
  run_try_me_else to f = runs_both M N area prog q name n k es r h qs at c stack cs m (TryMeElse to) tt f (suc at) to
      (λ marks e b t. step_try_me_else M N marks area q.shown name h qs at e c stack b m.first t to f)

  -- a switch, by what the cell of the first argument shows
  module _ (d : Cell) (at_d : c.x 1 ≡ Some d) where
    abbrev pub shown : Shape
    shown = shape_of (term_of name h d)
