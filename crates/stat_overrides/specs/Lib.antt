pub mod Words
pub mod Lines
pub mod Reading
pub mod Owners
pub mod Overrides
pub mod Fitting
pub mod Packages
