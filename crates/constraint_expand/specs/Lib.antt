pub mod Faults
pub mod Posts
pub mod Lists
pub mod Views
pub mod Nodes
pub mod Unions
pub mod Pieces
pub mod Sums
