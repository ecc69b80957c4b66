mod Names
mod Due
mod NameTexts
pub mod Changing
mod Awaiting
mod Wants
mod Found
mod Indexed
mod Notes
mod Turned
