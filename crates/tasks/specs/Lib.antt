pub mod Bytes
pub mod Spelled
pub mod Named
pub mod Lines
pub mod Refused
pub mod Tables
pub mod Twins
pub mod Rows
