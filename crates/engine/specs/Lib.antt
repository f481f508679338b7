pub mod Jobs
pub mod Words
pub mod Status
pub mod Steps
pub mod Lookups
pub mod Kept
