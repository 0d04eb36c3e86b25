pub mod LinearForm
pub mod Shares
pub mod Sums
pub mod Tasks
pub mod Loops
pub mod IntegerSums
