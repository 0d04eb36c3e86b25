-- The lemmas that other crates may cite, by their subjects. All else in proofs/ is this crate's own.
-- The goals of a program by their numbers.
pub use Rattle.clause_check.proofs.FlatGoals.{listed_unlisted, between_none, between_first, between_split}
