pub mod Headline
pub mod OutputPieces
pub mod OneOutput
