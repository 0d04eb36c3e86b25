-- The lemmas that other crates may cite, by their subjects. All else in proofs/ is this crate's own.
-- One step of the walk, and what is left behind it.
pub use Rattle.range_terms.proofs.Walks.{least_none}
