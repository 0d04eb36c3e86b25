-- The lemmas that other crates may cite, by their subjects. All else in proofs/ is this crate's own.
-- Bounds of new variables: each of them is bounded, and nothing else is posted.
pub use Rattle.branch_state.proofs.VariableBounds.{are_bounds, bounded_more, new_bounded, somewhere_right}
