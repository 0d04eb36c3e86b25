mod Tallies
mod QueensText
mod GeneratedTexts
pub mod Lemmas
