mod Touches
mod PairReduction
mod TerminationMeasure
mod OccursCheck
mod PairSteps
mod Unifications
mod ImmediateUnifications
pub mod Lemmas
