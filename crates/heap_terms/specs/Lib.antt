pub mod Tasks
pub mod CellReads
