-- The lemmas that other crates may cite, by their subjects. All else in proofs/ is this crate's own.
-- The tokens of a text, from left to right.
pub use Rattle.char_tokens.proofs.NextTokens.{Completes, completes_more, next_tokens, next_fault, next_shorter, fault_first}
