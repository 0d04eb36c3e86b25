pub mod Words
pub mod Lines
pub mod Headline
pub mod Parts
