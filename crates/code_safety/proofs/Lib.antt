mod CellEquations
mod UnchangedState
mod Safety
mod LevelSlots
mod Choices
mod RepresentedBranch
mod RemainingEvents
mod InitialMachine
mod Queries
mod WorkLeft
pub mod Lemmas
