pub mod Asked
pub mod Early
pub mod Starting
pub mod LeftOver
pub mod Whose
pub mod Turns
pub mod Taking
pub mod Run
