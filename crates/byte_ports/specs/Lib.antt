pub mod Ports
pub mod Parts
pub mod Ends
pub mod Lines
