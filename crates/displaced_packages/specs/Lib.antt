pub mod Losing
pub mod Displacing
