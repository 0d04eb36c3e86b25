mod Names
mod Laws
mod Walks
mod Growth
mod PlacedShapes
pub mod Lemmas
mod Parts
mod NameNumbers
