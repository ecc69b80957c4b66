pub mod Left
pub mod Removing
pub mod RemovalSteps
pub mod Configuring
pub mod Disappearing
pub mod Called
