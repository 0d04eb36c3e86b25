-- The lemmas that other crates may cite, by their subjects. All else in proofs/ is this crate's own.
-- The numbers that words mean: std's `parse` reads them, and they lie in their ranges.
pub use Rattle.command_words.proofs.Numbers.{answers_within, generate_within, infinity_within}
-- Words of the form are words that clap takes, and it finds the values as they are written.
pub use Rattle.command_words.proofs.Law.{asked_as_written}
