-- The lemmas that other crates may cite, by their subjects. All else in proofs/ is this crate's own.
-- What is ahead of branches of which some may not be consistent, goal by goal.
pub use Rattle.branch_meaning.proofs.RemainingEvents.{ahead_any, ahead_drop, ahead_fault, ahead_fewer, ahead_last, ahead_taken, ahead_none, ahead_sought}
pub use Rattle.branch_meaning.proofs.RemainingEvents.{ahead_spent, last_behind}
-- New cells for new variables.
pub use Rattle.branch_meaning.proofs.Cells.{place_above, place_from}
-- Variables that are forgotten: other equations that say the same of those that stay.
pub use Rattle.branch_meaning.proofs.EquivalentEquations.{same_model, stored_forget, stored_more}
-- The texts, labellings and rows of constraints by a frame whose store is at rest are those by the branch's view.
pub use Rattle.branch_meaning.proofs.FrameTexts.{Known, cell, cell_from, found_same, label_done, label_faults, label_there, line_same, of_arguments, row_cell}
pub use Rattle.branch_meaning.proofs.FrameTexts.{row_same, written_same}
-- One more equation, and one more variable, on a heap.
pub use Rattle.fd_language.proofs.Lemmas.{after_are, after_is}
pub use Rattle.branch_meaning.proofs.HeapExtension.{agree, agree_all, agree_each, below_both, more_all, more_each, more_of, still_of, unify_applied}
-- The steps of a frame that stands for equations and ranges.
pub use Rattle.branch_meaning.proofs.HeldBranches.{held_fix, stored_posts}
-- Ranges on cells that a store links, as ranges of a branch that are posted.
pub use Rattle.branch_meaning.proofs.LinkedRanges.{posted_each}
-- A labelling by the heap's list and the store's sets.
pub use Rattle.branch_meaning.proofs.Labels.{row_by}
-- A labelling by other names of the open variables, which have the same values.
pub use Rattle.branch_meaning.proofs.LabelRenaming.{AllIn, label_in, labelled_renamed, list_in, list_renamed, ListedIn, rename_listing, rename_members}
-- Models under fewer equations, and under the integers that they give.
pub use Rattle.branch_meaning.proofs.Models.{front, ungrown}
-- What is still to come behind an event.
pub use Rattle.branch_meaning.proofs.NextEvent.{behind_other}
-- Linked cells that take integers, as one unification.
pub use Rattle.branch_meaning.proofs.IntegerBindings.{AreConsecutive, bindings, each_found, number_touches, numbered, without, same_var, int_no_var}
-- A variable takes a term that the heap has already: no cell is made and nothing is posted.
pub use Rattle.branch_meaning.proofs.TermBinding.{Or, one_else, one_here, other, stored_cell, stored_place, with_one}
-- `T in r` on a machine: what is posted, or the fault, depends on the kinds of terms alone.
pub use Rattle.branch_meaning.proofs.PostGoals.{post_same}
pub use Rattle.branch_meaning.proofs.Views.{SameKind}
-- Rows of goals `T in r` under other names of their variables.
pub use Rattle.branch_meaning.proofs.PostRenaming.{functions, need_renamed, occurrences_renamed}
-- One more range on a branch and on the store.
pub use Rattle.branch_meaning.proofs.Posting.{by_shown, holds_agree, pick, pick_named, pick_other, pick_rising, new_or_old, one_left, one_back, slot_there}
pub use Rattle.branch_meaning.proofs.Posting.{slot_back}
-- The steps of goals `T in r` over cells: the machine reads its own terms, links the range's cells, and binds the fresh cells to their integers.
pub use Rattle.branch_meaning.proofs.RangeGoals.{IsRangeRow, only_integers, plain, post_as_row, range_plain, range_row}
-- Goals under renamings, and the variables that stand in them.
pub use Rattle.branch_meaning.proofs.Renaming.{of_all, of_below, range_twice}
-- What is seen of known variables has known variables alone.
pub use Rattle.branch_meaning.proofs.VariableScope.{seen_by_variable, seen_of, variables_on}
-- Each linked cell whose set has one value is bound to it, and then the store is at rest.
pub use Rattle.branch_meaning.proofs.SingleValues.{fixed_rest}
-- What a new heap and a new store stand for.
pub use Rattle.branch_meaning.proofs.EmptyStore.{first_model, nothing_stored}
-- What a goal gives in a branch, what it says and keeps, and the level of a test's cut.
pub use Rattle.branch_meaning.proofs.Steps.{GivesAll, KeepsAll, Speaks, test_level}
-- Choice points and the branches for which they stand, level by level.
pub use Rattle.branch_meaning.proofs.Levels.{IsBelow, later_kept, level_above, level_stays, level_top, oldest_all, oldest_fewer, wait_below, wait_length, wait_top}
-- What follows for a heap and a store that stand for a branch.
unfoldable pub use Rattle.branch_meaning.proofs.Store.{without_cell}
pub use Rattle.branch_meaning.proofs.Store.{extended, sole_value}
-- The law on touched values and pairs.
pub use Rattle.branch_meaning.proofs.TouchedValues.{as_equations, as_posts, set_term, set_term_int, unified}
-- A frame whose store is at rest shows what is seen in the branch.
pub use Rattle.branch_meaning.proofs.Views.{view_kind}
-- A fit branch without a model is not consistent.
pub use Rattle.branch_meaning.proofs.FailedBranches.{gone_by}
-- A constraint's row under other names of its variables.
pub use Rattle.branch_meaning.proofs.Constraints.{was_row}
