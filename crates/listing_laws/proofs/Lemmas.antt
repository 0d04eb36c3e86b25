-- The lemmas that other crates may cite. All else in proofs/ is this crate's own.
-- Code stands for the programs that code with the same listing stands for.
pub use Rattle.listing_laws.proofs.SameCode.{same_listing}
