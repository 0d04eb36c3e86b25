pub mod StateTransfer
pub mod Successors
pub mod PlaceConditions
pub mod Laws
