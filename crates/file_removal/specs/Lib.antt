pub mod Removal
pub mod Visits
pub mod Clearing
pub mod Lowering
