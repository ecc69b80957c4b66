pub mod Listing
pub mod Closing
pub mod Areas
pub mod Concluding
