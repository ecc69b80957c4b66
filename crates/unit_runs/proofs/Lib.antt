pub mod Barred
pub mod Going
pub mod Taken
