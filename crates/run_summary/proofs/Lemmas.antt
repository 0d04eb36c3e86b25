-- The lemmas that other crates may cite, by their subjects. All else in proofs/ is this crate's own.
-- The generator's texts are programs with one query.
pub use Rattle.run_summary.proofs.GeneratedTexts.{queens_program}
-- The events of a run, counted.
pub use Rattle.run_summary.proofs.Tallies.{same_program}
