mod Within
mod Lines
pub mod Steps
