mod Runs
mod Leads
mod Digits
mod QuotedAtoms
mod NextTokens
pub mod Lemmas
