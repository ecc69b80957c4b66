pub mod Lowered
pub mod Visiting
pub mod Removing
pub mod Clears
pub mod Leavings
