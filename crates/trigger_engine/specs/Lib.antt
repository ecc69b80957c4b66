pub mod Stages
pub mod Units
