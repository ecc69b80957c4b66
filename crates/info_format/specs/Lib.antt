pub mod Names
pub mod Naming
pub mod Format
pub mod Tests
pub mod Steps
pub mod Converting
pub mod Stage
pub mod Seeing
