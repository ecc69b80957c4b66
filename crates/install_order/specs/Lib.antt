pub mod Bearers
pub mod Clauses
pub mod Needs
pub mod Rounds
pub mod Taking
