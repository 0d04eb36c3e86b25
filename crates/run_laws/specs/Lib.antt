pub mod ConstraintSizes
pub mod FlatTexts
pub mod AnyUnifiers
pub mod Laws
