pub mod Names
pub mod Hits
pub mod Watch
pub mod Touches
pub mod Activations
pub mod Passed
