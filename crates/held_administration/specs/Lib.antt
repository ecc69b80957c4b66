pub mod Open
pub mod Order
