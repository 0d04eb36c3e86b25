-- The lemmas that other crates may cite, by their subjects. All else in proofs/ is this crate's own.
-- The end of a query: the answer's line is read off the slots' cells.
pub use Rattle.code_meaning.proofs.AnswerLines.{run_any, run_fewer, run_last}
-- The unify instructions where a compound term is built.
pub use Rattle.code_meaning.proofs.WriteMode.{build_constant, build_integer, build_value, build_variable, build_void, build_voids}
-- Where a compound term begins to be built, and where it is built.
pub use Rattle.code_meaning.proofs.BuiltTerms.{end_get, end_put, start_get, start_put}
-- A goal is called: the branches of the clauses that its predicate's code tries are those that are still to come.
pub use Rattle.code_meaning.proofs.GoalCalls.{run_call, run_execute}
-- The steps of the group cut: a test, with another way or without, and a cut.
pub use Rattle.code_meaning.proofs.CutSteps.{run_cut, run_enter, run_test}
-- The steps from a constraint: its row by the heap and the store's sets, whose fresh variables are the next variables of the heap.
pub use Rattle.code_meaning.proofs.ConstraintSteps.{run_constraint, run_constraint_failed, run_constraint_fault}
-- The steps from a built-in goal, by what it comes to on the heap and the store's sets.
pub use Rattle.code_meaning.proofs.BuiltinSteps.{run_found_equated, run_found_false, run_found_fault, run_found_refuted, run_found_true}
-- The steps from `true`, `fail`, `=` and `;`, and from any goal where the budget is spent.
pub use Rattle.code_meaning.proofs.Goals.{TakesGoal, run_either, run_fail, run_false, run_refuted, run_true, run_unify, runs_spent}
-- The steps from a labelling, and back to one.
pub use Rattle.code_meaning.proofs.Labelling.{back_last_value, back_no_values, back_value, run_label, run_label_done, run_label_fault}
-- The steps from a search for the best leaf of a labelling, and the numbers found, which the machine takes one after the other.
pub use Rattle.code_meaning.proofs.BestLeafSearch.{run_best, run_best_fault, run_best_none}
pub use Rattle.code_meaning.proofs.Rounds.{lead_done, lead_equal, lead_model, lead_more, lead_no_fault, lead_value}
-- A compound term of a clause's head, where the argument is one of its name and arity: its arguments are read one by one.
pub use Rattle.code_meaning.proofs.HeadStructures.{IsNone, count_terms, step_get_structure}
-- The steps from a goal `T in R`, by the cells of its target and of the range's variables.
pub use Rattle.code_meaning.proofs.RangeGoals.{run_range, run_range_fault}
-- The unify instructions on a compound term that is there.
pub use Rattle.code_meaning.proofs.ReadMode.{read_constant, read_end, read_integer, read_value, read_variable, read_void, read_voids}
-- Steps of the whole state: on in a clause, before a clause, to a choice point and back to it.
pub use Rattle.code_meaning.proofs.MachineStates.{back_resumes, goes_before, runs_gone, runs_jump, runs_on, runs_over, runs_tries, spends_more, stands_no_model}
pub use Rattle.code_meaning.proofs.MachineStates.{stands_pushed, trying_pushed, back_ends}
-- Registers and continuations on a heap that changes.
pub use Rattle.code_meaning.proofs.RegisterTerms.{all_moved, shown_moved}
-- A new machine at a query's code, and a store without a model.
pub use Rattle.code_meaning.proofs.QueryStart.{run_fails, run_starts}
-- The machine's step at each instruction.
pub use Rattle.code_meaning.proofs.InstructionSteps.{step_allocate, step_deallocate, step_get_constant, step_get_integer, step_get_value, step_get_variable}
pub use Rattle.code_meaning.proofs.InstructionSteps.{step_level, step_proceed, step_put_constant, step_put_integer, step_put_value, step_put_variable}
-- The machine's step at each choice and switch, and clauses that may be left out.
pub use Rattle.code_meaning.proofs.ClauseChoices.{step_constants, step_enter, step_fail, step_integers, step_retry, step_retry_me_else, step_structures}
pub use Rattle.code_meaning.proofs.ClauseChoices.{step_switch, step_trust, step_trust_me, step_try, step_try_me_else}
-- The steps from `write` and `nl`.
pub use Rattle.code_meaning.proofs.OutputSteps.{run_newline, run_write}
-- A clause whose first argument clashes with what the goal's first cell shows may be left out: its branch has no model.
pub use Rattle.code_meaning.proofs.ClashingClauses.{count_applied}
-- Bounds that a store gets behind its other ranges.
pub use Rattle.code_meaning.proofs.StoreBounds.{runs_bounded}
