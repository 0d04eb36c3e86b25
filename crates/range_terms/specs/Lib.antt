pub mod TermNodes
pub mod Forms
pub mod Names
pub mod Walk
pub mod Faults
