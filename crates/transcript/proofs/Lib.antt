pub mod Compared
pub mod Saying
pub mod Parting
