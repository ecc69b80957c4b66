pub mod Packages
pub mod Renewal
