pub mod Takeover
pub mod Commit
pub mod Areas
