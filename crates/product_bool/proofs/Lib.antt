mod SumSizes
mod Arguments
mod Factors
mod Gates
mod TellingSums
mod ReifiedParts
pub mod Lemmas
