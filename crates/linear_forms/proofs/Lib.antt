mod Signs
mod Shares
mod SumArithmetic
mod Loops
mod Words
mod SingleTerms
mod ShareOrder
mod Stacks
mod Steps
mod CollectedSums
mod NegatedSums
pub mod Lemmas
