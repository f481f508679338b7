pub mod Tasks
pub mod Found
pub mod Releases
pub mod Ticks
pub mod Sole
