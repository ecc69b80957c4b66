pub mod Finding
mod Openings
pub mod OneTable
mod Faultless
mod OneDiversions
pub mod Merging
pub mod Reopened
pub mod Brought
pub mod KeptLists
pub mod Followed
pub mod TakingUp
mod OfOne
