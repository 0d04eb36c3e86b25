-- Programs for which there is code.
pub use Rattle.clause_check.specs.Codable.{IsNarrow, AreNarrow, is_named, IsCodableGoal, AreCodableGoals, EachCodable, ClausesCodable, AreOnce, QueriesCodable}
pub use Rattle.clause_check.specs.Codable.{IsCodable}
