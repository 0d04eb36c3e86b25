pub mod Spans
pub mod Sets
pub mod Narrowing
pub mod StackedSets
pub mod Views
