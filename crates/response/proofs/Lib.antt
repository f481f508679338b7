mod Loads
mod Places
pub mod Single
