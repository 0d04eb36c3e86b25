mod PieceWrites
mod ProgramCode
mod Events
mod LastEvents
mod Endings
mod Lines
pub mod Lemmas
