pub mod Followed
pub mod Glances
mod PartByPart
