pub mod Above
pub mod Beside
pub mod Following
pub mod Flatness
mod Going
pub mod Clearing
mod Kept
mod Tables
mod Progressing
mod Remembered
mod Walking
