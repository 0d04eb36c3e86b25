pub mod Contents
pub mod Terms
pub mod PoolInvariant
pub mod PoolFields
pub mod PlacedTerms
