pub mod Others
pub mod Followed
pub mod Units
pub mod Endings
pub mod Touched
pub mod Tables
