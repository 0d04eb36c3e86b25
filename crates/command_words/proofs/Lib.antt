mod Pairs
mod Numbers
mod Law
pub mod Lemmas
