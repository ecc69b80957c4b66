mod Turned
pub mod Steps
pub mod Abandoned
pub mod Settled
