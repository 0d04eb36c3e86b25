pub mod Machine
pub mod Safety
pub mod RepresentedBranch
pub mod CellEquations
pub mod Choices
pub mod RemainingEvents
pub mod Queries
pub mod Work
