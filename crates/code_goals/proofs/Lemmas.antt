-- The lemmas that other crates may cite, by their subjects. All else in proofs/ is this crate's own.
-- Labellings, taken.
pub use Rattle.code_goals.proofs.Labelling.{back_at}
-- The names of the code's atoms.
pub use Rattle.code_goals.proofs.Tasks.{own_naming}
