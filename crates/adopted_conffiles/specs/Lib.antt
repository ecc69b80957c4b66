pub mod Digested
pub mod Adopted
pub mod Adopting
