pub mod Inside
pub mod Steps
pub mod Names
pub mod Entries
pub mod Texts
pub mod Rows
pub mod Beginning
pub mod Unreached
pub mod Parts
pub mod Stages
pub mod Unpacks
pub mod Removals
pub mod Units
pub mod Behind
pub mod Sounds
pub mod Turns
mod Changes
mod Triggers
pub mod Sessions
pub mod Diverts
pub mod Losses
mod Standings
mod Undamaged
mod Openings
mod LostOpenings
mod ControlFiles
mod Answered
mod Checkpoints
