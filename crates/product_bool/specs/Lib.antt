pub mod Faults
pub mod Members
pub mod Posts
pub mod Products
pub mod Gates
pub mod Sums
pub mod Views
pub mod Reified
