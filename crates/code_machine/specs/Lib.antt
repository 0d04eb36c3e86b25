pub mod Instructions
pub mod Labels
pub mod States
pub mod Steps
