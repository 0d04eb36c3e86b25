pub mod FaultPlaces
pub mod Owners
pub mod LocalConditions
pub mod Predecessors
pub mod Places
pub mod Verdict
