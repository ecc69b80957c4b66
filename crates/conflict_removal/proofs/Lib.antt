pub mod One
pub mod Chain
pub mod Removable
pub mod Moments
pub mod Left
pub mod Calling
