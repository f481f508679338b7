pub mod Figures
pub mod Told
