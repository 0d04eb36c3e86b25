pub mod Areas
pub mod HeldCells
pub mod AreaFields
