pub mod Extents
pub mod Scripts
pub mod Records
pub mod Lists
pub mod Names
pub mod Stages
pub mod Ends
pub mod Units
