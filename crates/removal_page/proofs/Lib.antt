pub mod Rows
pub mod Steps
pub mod Calls
pub mod Runs
pub mod Pages
pub mod Planned
pub mod Removals
pub mod Configuring
