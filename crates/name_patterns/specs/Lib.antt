pub mod Patterns
pub mod Marks
