pub mod Incoming
pub mod Beside
pub mod Checks
