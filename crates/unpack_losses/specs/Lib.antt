pub mod Files
pub mod Targets
pub mod Standing
