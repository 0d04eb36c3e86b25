-- The lemmas that other crates may cite, by their subjects. All else in proofs/ is this crate's own.
-- What a loop joins, one item after another.
pub use Rattle.code_listing.proofs.JoinedTexts.{letters_step}
pub use Rattle.code_listing.proofs.JoinedTexts.{lines_append}
