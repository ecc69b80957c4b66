pub mod Glances
pub mod Read
