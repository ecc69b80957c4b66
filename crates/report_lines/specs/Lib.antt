pub mod Calls
pub mod States
pub mod Faults
pub mod Openings
pub mod Replies
pub mod Reports
pub mod Notes
