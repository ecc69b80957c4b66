mod Names
mod Apart
mod Written
mod Planned
mod Moments
pub mod Beside
