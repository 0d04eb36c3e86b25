pub mod Arguments
pub mod ReadMode
pub mod WriteMode
pub mod Pairs
