pub mod Words
pub mod Lines
pub mod Interests
pub mod Hits
