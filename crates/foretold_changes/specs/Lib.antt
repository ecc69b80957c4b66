pub mod Changes
pub mod Owning
pub mod Staying
pub mod Told
