-- The lemmas that other crates may cite, by their subjects. All else in proofs/ is this crate's own.
-- The steps from a constraint: its row by the heap and the store's sets, whose fresh variables are the next variables of the heap.
pub use Rattle.branch_lemmas.proofs.ConstraintSteps.{kept_row, look_old, row_look}
-- The cells of a heap that grows.
pub use Rattle.branch_lemmas.proofs.GrownCells.{of_grown}
-- Terms of a clause, whose variables stand behind a branch's.
pub use Rattle.branch_lemmas.proofs.RenamedTerms.{renamed_all}
-- Heaps that grow while terms are built, and heaps whose variables become variables of the store.
pub use Rattle.branch_lemmas.proofs.HeapGrowth.{grown_both, grown_same, grown_var, linked_next, linked_none}
-- What is kept in a frame: known variables come in and are forgotten, and the heap grows.
pub use Rattle.branch_lemmas.proofs.KeptFrames.{kept_cell, kept_consistent, kept_forget, kept_grown, kept_known, kept_more, kept_no_model, kept_place}
-- Heaps that grow, and variables behind the last one.
pub use Rattle.branch_lemmas.proofs.NewVariables.{new_open, slot_behind}
-- A variable that gets a value.
pub use Rattle.branch_meaning.proofs.Lemmas.{one_else, one_here}
-- The names of a pool, with others for the atoms that aren't there, are one to one; and a heap with atoms of the pool alone has the same terms by both.
pub use Rattle.branch_lemmas.proofs.AtomNames.{full_one, full_own, full_term}
-- A term that is read as an open variable is one.
pub use Rattle.branch_lemmas.proofs.OpenVariables.{unsettled}
-- A kept frame with each variable bound whose set has one value: the store is at rest then, and what is seen in the branch is what the frame shows.
pub use Rattle.branch_lemmas.proofs.SingletonDomains.{settled_held, settled_look, settled_rest}
-- A unification of two cells, as the machine relation has it.
pub use Rattle.branch_lemmas.proofs.Unification.{kept_barred, kept_refuted, kept_unified, link_at, linked_at}
-- Posted ranges in another order: they name the same variables and have the same models.
pub use Rattle.branch_lemmas.proofs.PermutedRanges.{some_permuted, named_permuted, model_permuted}
-- A greatest number of variables as ranges: the models are the same where each variable is bounded, and bounds that come beside the others leave what a heap and
-- a store stand for as it is.
pub use Rattle.fd_model.proofs.Lemmas.{bound_low, bound_in}
pub use Rattle.branch_lemmas.proofs.VariableBounds.{bounded_at, model_narrower, model_wider, model_bounded, stored_bounded, kept_bounded}
pub use Rattle.branch_lemmas.proofs.VariableBounds.{none_bounded}
