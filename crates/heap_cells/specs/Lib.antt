pub mod Cells
pub mod Terms
pub mod HeapInvariant
pub mod HeapFields
pub mod SeenCells
pub mod Atoms
pub mod SeenTerms
