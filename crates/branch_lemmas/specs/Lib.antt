pub mod Frames
pub mod FittingClauses
pub mod AtomNames
pub mod SeenHeap
pub mod Posting
pub mod CellRanges
pub mod Laws
pub mod VariableBounds
