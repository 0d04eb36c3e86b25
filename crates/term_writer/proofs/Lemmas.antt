-- The lemmas that other crates may cite, by their subjects. All else in proofs/ is this crate's own.
-- Names in quotes: bytes over 127 stand as they are.
pub use Rattle.term_writer.proofs.QuotedNames.{high_bytes, high_encode, low_or_high, quoted-append}
