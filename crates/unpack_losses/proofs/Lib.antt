pub mod Works
pub mod Targets
pub mod Unmarked
