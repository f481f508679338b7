pub mod Sums
pub mod Rows
pub mod Words
pub mod PatternLemmas
pub mod Searches
pub mod TurnLemmas
