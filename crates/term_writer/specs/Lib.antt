pub mod Views
pub mod Pieces
pub mod SpelledTerms
pub mod QuoteRoundTrip
pub mod TextReadings
