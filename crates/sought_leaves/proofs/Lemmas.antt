-- The lemmas that other crates may cite, by their subjects. All else in proofs/ is this crate's own.
-- A cell that takes an integer.
pub use Rattle.sought_leaves.proofs.Nodes.{number_here, number_else, put_number}
-- What a search finds over the store's posted ranges is what the labelling's best leaf is in the branch.
pub use Rattle.sought_leaves.proofs.LeafSearch.{searches_agree}
-- The list and the cost of a search, as they are shown and as they are seen.
pub use Rattle.sought_leaves.proofs.BranchViews.{members_there}
-- The two ways of a labelling that takes given values.
pub use Rattle.sought_leaves.proofs.ValueChoices.{IsEnd, IsTaken, number_alone, number_stays, takes_either}
-- A consistent branch has a model.
pub use Rattle.sought_leaves.proofs.Values.{branch_model}
