pub mod Scattered
pub mod Turns
pub mod Apart
