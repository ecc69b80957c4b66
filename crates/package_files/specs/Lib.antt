pub mod Works
pub mod Files
pub mod Names
pub mod Free
pub mod Laid
pub mod Apart
pub mod Steps
pub mod Back
