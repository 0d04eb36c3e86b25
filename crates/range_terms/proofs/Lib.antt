mod TermNodes
mod Rows
mod Positions
mod Walks
mod Steps
mod WalkResult
pub mod Lemmas
