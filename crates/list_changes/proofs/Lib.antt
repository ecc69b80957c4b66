pub mod Above
pub mod Listings
pub mod Going
pub mod Outside
