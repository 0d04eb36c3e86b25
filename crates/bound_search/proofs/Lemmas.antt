-- The lemmas that other crates may cite, by their subjects. All else in proofs/ is this crate's own.
-- Nodes that spell a range give it.
pub use Rattle.bound_search.proofs.PostedValues.{spelled_there}
-- The open variables of two lists.
pub use Rattle.bound_search.proofs.Values.{open_both}
