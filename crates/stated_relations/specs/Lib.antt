pub mod Relations
pub mod Stated
