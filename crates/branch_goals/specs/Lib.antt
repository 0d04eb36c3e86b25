pub mod Domains
pub mod Findings
pub mod Labels
pub mod Lists
pub mod Searches
pub mod VariableSelection
