mod CellTops
mod Remainders
mod Evaluations
mod TermPairs
