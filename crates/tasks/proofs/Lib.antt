pub mod Growing
pub mod TwinLemmas
