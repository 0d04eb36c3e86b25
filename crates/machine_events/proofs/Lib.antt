mod Intervals
pub mod Lemmas
