mod CostLemmas
pub mod Promised
