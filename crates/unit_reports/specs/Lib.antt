pub mod Held
pub mod Units
pub mod Watching
