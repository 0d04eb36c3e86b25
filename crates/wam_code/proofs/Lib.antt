mod Steps
mod Places
mod Tries
mod StructureArguments
mod RestatedEquations
mod Effect
mod WorkMeasure
mod CodeRegions
mod Examples
pub mod Lemmas
