mod Effects
mod Registers
mod StateEquivalence
mod Congruence
mod Successors
mod DistinctRegisters
mod PlaceConditions
pub mod Lemmas
