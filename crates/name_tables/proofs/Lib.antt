pub mod Lookups
pub mod Names
pub mod Ordered
pub mod Placed
pub mod Searching
