-- The lemmas that other crates may cite, by their subjects. All else in proofs/ is this crate's own.
-- What is picked, as a list is walked.
pub use Rattle.label_search.proofs.Picks.{length-universe}
