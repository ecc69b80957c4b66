pub mod Paths
pub mod Asked
pub mod Records
pub mod Files
pub mod Places
pub mod Selections
