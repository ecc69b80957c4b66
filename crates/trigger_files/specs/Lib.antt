pub mod Places
pub mod Lines
pub mod Entries
pub mod Registered
pub mod Steps
