pub mod Activated
pub mod Pending
pub mod Awaits
pub mod Units
pub mod Turns
pub mod Run
pub mod Taking
