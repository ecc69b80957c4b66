pub mod Names
pub mod Pending
pub mod Needs
pub mod Units
pub mod Turns
pub mod Taking
pub mod Run
