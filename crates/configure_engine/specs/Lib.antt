pub mod Waiting
pub mod Decided
pub mod Settled
pub mod Obstacles
pub mod Stages
pub mod Units
