pub mod Barriers
pub mod Going
pub mod Calling
