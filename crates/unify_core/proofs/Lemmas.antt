-- The lemmas that other crates may cite, by their subjects. All else in proofs/ is this crate's own.
-- Unifications that one look decides.
pub use Rattle.unify_core.proofs.ImmediateUnifications.{atoms_false, atoms_true, integers_false, integers_true, left_bound}
-- A whole unification, from its steps.
pub use Rattle.unify_core.proofs.Unifications.{IsBehind, at_false, atoms_unified, equalled}
