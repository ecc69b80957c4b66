pub mod Bearing
pub mod Moves
pub mod Order
pub mod Packages
