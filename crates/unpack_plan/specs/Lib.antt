pub mod Planned
pub mod Digests
pub mod Yielded
pub mod Records
pub mod Lists
pub mod Names
pub mod Members
