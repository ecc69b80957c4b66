pub mod ByDirectory
pub mod Answered
pub mod Settled
pub mod TakingTurns
pub mod Parted
pub mod GoingApart
