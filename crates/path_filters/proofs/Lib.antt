pub mod Deciding
pub mod Trimming
