-- Cells of a branch that are made equal.
use Rattle.std.specs.Prelude.{◌≡◌, ◌⊎◌, Bool, true, false, List}
use Rattle.fd_language.specs.declared.TheConstants.{INFINITY}
use Rattle.heap_cells.specs.declared.Cell.{Cell}
use Rattle.heap_cells.specs.Cells.{Cells}
use Rattle.unify_core.specs.declared.Touch.{Touch}
use Rattle.unify_core.specs.PairReduction.{IsSameSize}
use Rattle.unify_core.specs.Unifications.{AreUnified, CannotUnify}
use Rattle.branch_state.specs.States.{State, IsSound, IsSoundBelow, HasNoModel}
use Rattle.branch_state.specs.Steps.{posted_with}

-- the cells are equal now, and what is posted has a model with what was touched
pub record AreEquated (old : State) (a b : Cell) (now : State) : Type 0 where
  pub touches : List Touch
  pub unified : AreUnified old.heaps.now a b now.heaps.now touches
  pub size : IsSameSize old.heaps.now now.heaps.now
  pub posted : now.levels.current.posted ≡ posted_with old touches
  pub sound : IsSound now

-- or it has none
pub record HasNoModelFor (old : State) (a b : Cell) : Type 0 where
  pub now : Cells
  pub touches : List Touch
  pub unified : AreUnified old.heaps.now a b now touches
  pub size : IsSameSize old.heaps.now now
  pub none : HasNoModel INFINITY (posted_with old touches)

abbrev pub Equates : State → Cell → Cell → State → Bool → Type 0
Equates old a b now true = AreEquated old a b now
Equates old a b now false = (CannotUnify old.heaps.now a b ⊎ HasNoModelFor old a b) × IsSoundBelow now
