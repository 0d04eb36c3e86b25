pub mod Marks
pub mod Slots
pub mod LoadedCode
pub mod Laws
