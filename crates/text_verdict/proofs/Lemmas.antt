-- The lemmas that other crates may cite, by their subjects. All else in proofs/ is this crate's own.
-- A text has one verdict, and which it is.
pub use Rattle.text_verdict.proofs.OneVerdict.{bytes_verdict, large_verdict, one_verdict, read_verdict}
