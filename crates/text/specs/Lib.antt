pub mod Cuts
pub mod Forms
pub mod Values
pub mod Rules
pub mod Reading
pub mod Examples
pub mod Layers
pub mod Law
