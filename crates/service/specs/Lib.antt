pub mod Account
pub mod Served
pub mod Guarantee
