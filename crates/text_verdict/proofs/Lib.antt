mod OneVerdict
mod Verdicts
pub mod Lemmas
