-- The lemmas that other crates may cite, by their subjects. All else in proofs/ is this crate's own.
-- The intervals of a set are the spans that it is made of.
pub use Rattle.machine_events.proofs.Intervals.{span_intervals}
