pub mod Leaving
pub mod Parts
pub mod Undamaged
pub mod Opened
pub mod Followed
pub mod Stopped
pub mod Architectures
pub mod TakenUp
