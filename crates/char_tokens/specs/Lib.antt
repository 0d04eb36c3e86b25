pub mod Views
pub mod UnreadText
pub mod NextTokens
