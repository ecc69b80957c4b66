pub mod Names
pub mod Members
pub mod Stored
pub mod LaidOut
pub mod Written
