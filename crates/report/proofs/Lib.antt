pub mod Lines
pub mod Alike
pub mod Once
