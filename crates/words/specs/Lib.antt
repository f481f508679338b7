pub mod Sums
pub mod Bits
pub mod Patterns
pub mod Turns
