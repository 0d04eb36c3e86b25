mod Picks
pub mod Lemmas
