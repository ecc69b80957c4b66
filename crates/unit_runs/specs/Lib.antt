pub mod Barring
pub mod Turns
pub mod Taking
