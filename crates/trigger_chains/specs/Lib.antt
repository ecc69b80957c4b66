pub mod Steps
pub mod Wishes
