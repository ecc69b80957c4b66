mod Least
mod Staying
mod PlacesOnce
mod Deciding
mod Unlinked
mod Tables
pub mod NothingSettled
mod SettledLaws
mod Fits
mod Made
mod Planned
mod Looking
