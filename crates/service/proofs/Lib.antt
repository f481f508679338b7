pub mod Jobs
pub mod Lines
pub mod Carried
pub mod Only
pub mod Whole
