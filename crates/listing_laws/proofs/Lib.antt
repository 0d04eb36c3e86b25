mod SameRanges
mod SameCode
pub mod Lemmas
