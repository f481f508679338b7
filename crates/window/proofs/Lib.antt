pub mod Pending
pub mod Sums
pub mod Costs
pub mod Task
pub mod Levels
pub mod Steps
pub mod Sound
