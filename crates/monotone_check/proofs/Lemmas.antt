-- The lemmas that other crates may cite, by their subjects. All else in proofs/ is this crate's own.
-- Given on from the language: an equality may be turned round.
pub use Rattle.fd_language.proofs.Lemmas.{eq_sym}
-- The walk over a range's nodes.
pub use Rattle.monotone_check.proofs.NodeWalk.{builds_all}
