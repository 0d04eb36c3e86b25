-- The lemmas that other crates may cite, by their subjects. All else in proofs/ is this crate's own.
-- A number among others, and a step of a loop over them.
pub use Rattle.code_flow.proofs.StateEquivalence.{all_step, has_at}
-- Code whose places meet their conditions is verified.
pub use Rattle.code_flow.proofs.PlaceConditions.{fits_verified}
