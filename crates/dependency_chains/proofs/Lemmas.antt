-- The lemmas that other crates may cite, by their subjects. All else in proofs/ is this crate's own.
-- Links come and go at the newest end.
pub use Rattle.dependency_chains.proofs.LinkChanges.{last_or_older}
