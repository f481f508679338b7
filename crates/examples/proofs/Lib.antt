pub mod Lines
pub mod Figures
pub mod Runs
pub mod Words
pub mod Demanded
pub mod Pairs
