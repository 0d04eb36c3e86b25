-- The lemmas that other crates may cite, by their subjects. All else in proofs/ is this crate's own.
-- A placed term without its places is the pool's term, and has the pool's place.
pub use Rattle.term_reader.proofs.PlainTerms.{place_placed, plain_placed}
-- Each text is sentences, or has a first fault.
pub use Rattle.term_reader.proofs.TextOutcomes.{each_is_read}
-- What the machine accepts, the grammar derives; what it has read can be completed, and what it refuses can't.
pub use Rattle.term_reader.proofs.Soundness.{sound}
-- One more sentence of a text.
pub use Rattle.term_reader.proofs.SentenceLists.{sentences_more}
