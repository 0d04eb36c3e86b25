-- The lemmas that other crates may cite, by their subjects. All else in proofs/ is this crate's own.
-- Steps without a reduction come to an end.
pub use Rattle.wam_code.proofs.WorkMeasure.{back_falls, cut_less, fork_falls, proceed_falls, step_falls, weight_up, weight_some}
-- What a place needs is there, and what it hands on covers the next place's state.
pub use Rattle.wam_code.proofs.Effect.{covers_self}
-- Where code is reached from: queries keep to themselves, and places lie ahead.
pub use Rattle.wam_code.proofs.CodeRegions.{entry_covered, entry_outside, executes_outside, falls_inside, falls_nearer, falls_outside, names_nearer}
pub use Rattle.wam_code.proofs.CodeRegions.{names_outside, no_answer_outside, returns_outside, shown_are_cells, set_below, same_code}
-- Registers that are written hold what was put, and the others what they held.
pub use Rattle.wam_code.proofs.Places.{put_here, put_else}
-- Equations that are restated, beside those that are made already.
pub use Rattle.wam_code.proofs.RestatedEquations.{still_says_same}
-- Places and rules without the bound.
pub use Rattle.wam_code.proofs.Steps.{at_place, from_learning, from_restating, from_rule, quietly_keeps}
-- Choices and switches without the bound, and the clauses that a goal needn't try.
pub use Rattle.wam_code.proofs.Tries.{at_try, try_from_rule}
-- The arguments of a structure, one unify instruction after the other.
pub use Rattle.wam_code.proofs.StructureArguments.{at_unify}
