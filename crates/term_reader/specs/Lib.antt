pub mod PlacedTerms
pub mod View
pub mod VariableNumbers
pub mod GrammarTokens
pub mod Sentences
pub mod VariableNames
pub mod Laws
pub mod GivenParts
