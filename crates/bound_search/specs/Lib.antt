pub mod Members
pub mod Posting
pub mod SearchStates
pub mod Work
pub mod Objectives
