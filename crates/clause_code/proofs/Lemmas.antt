-- The lemmas that other crates may cite, by their subjects. All else in proofs/ is this crate's own.
-- What is left of a list of terms.
pub use Rattle.clause_code.proofs.Rests.{count_terms}
-- Lists of clauses, one choice after the other.
pub use Rattle.clause_code.proofs.ClauseChoices.{list_tries}
-- Pieces that flow, one behind the other.
pub use Rattle.clause_code.proofs.StateFlow.{one_aim}
