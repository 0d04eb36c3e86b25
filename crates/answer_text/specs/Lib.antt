pub mod Reasons
pub mod Pieces
pub mod Variables
pub mod Events
