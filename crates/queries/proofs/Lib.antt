pub mod Ordered
pub mod AllTold
