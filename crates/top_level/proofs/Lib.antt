mod AcceptedWords
mod OneOutput
mod OutputPieces
mod Endings
