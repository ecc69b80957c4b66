pub mod Digests
pub mod Decisions
pub mod Settling
