pub mod CellTops
pub mod TypeTests
pub mod Outcomes
pub mod Evaluations
pub mod Identity
pub mod OpenOperations
