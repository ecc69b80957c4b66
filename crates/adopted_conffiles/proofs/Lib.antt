pub mod Pending
pub mod Taken
pub mod Putting
