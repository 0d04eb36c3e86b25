-- The lemmas that other crates may cite, by their subjects. All else in proofs/ is this crate's own.
-- Cells of a branch that are made equal.
pub use Rattle.code_safety.proofs.CellEquations.{equated, same_cells}
-- What is left to be done falls with each instruction, with each reduction and with each value of a labelling that is tried.
pub use Rattle.code_safety.proofs.WorkLeft.{last_value_falls, left_falls, left_spent, left_up, value_falls, one_more}
-- A machine stays in its query's code.
pub use Rattle.code_safety.proofs.Queries.{ends_on, named_inside, next_inside, query_kept}
-- What an instruction leaves as it was, behind the current registers and below the current pair of the branch.
pub use Rattle.code_safety.proofs.UnchangedState.{same_behind, behind_both, same_below, below_heap, below_both}
-- What is safe stays so.
pub use Rattle.code_safety.proofs.Safety.{Finds, back_safe, behind_on, cells_kept, fits_less, found, free_holds, next_safe, place_within, points_kept}
pub use Rattle.code_safety.proofs.Safety.{points_then, returns_kept, same_atoms, set_holds, some_is, thread_kept, when_parts, within_code, written_fits}
pub use Rattle.code_safety.proofs.Safety.{written_own}
-- There are as many choices as choice points, and where the newest points are dropped the oldest choices are left.
pub use Rattle.code_safety.proofs.Choices.{choices_many, choices_left, points_marked}
-- What a slot that takes a level, or has one, is in the areas.
pub use Rattle.code_safety.proofs.LevelSlots.{level_read, level_slot, level_there, leveled, leveled_fits, leveled_long, leveled_marks, leveled_own}
-- What is still to come for a machine, and the work that is left, where an instruction keeps what the machine stands for.
pub use Rattle.code_safety.proofs.RemainingEvents.{choices_kept, kept_falls, kept_runs, sound_model, budget_ends, returned_ends}
-- What a machine stands for is kept by the get and put groups.
pub use Rattle.code_safety.proofs.RepresentedBranch.{get_constant_stands, get_integer_stands, get_value_stands, get_variable_stands, put_constant_stands}
pub use Rattle.code_safety.proofs.RepresentedBranch.{put_integer_stands, put_value_stands, put_variable_stands}
-- A new machine at a query's code: it is safe there, and stands for the query's run.
pub use Rattle.code_safety.proofs.InitialMachine.{started_runs, started_safe}
