pub mod Words
pub mod Names
pub mod Texts
pub mod Listing
pub mod States
pub mod Sheets
