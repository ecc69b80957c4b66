pub mod Needed
pub mod Verdicts
pub mod Stages
pub mod Units
pub mod Runs
