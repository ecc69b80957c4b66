pub mod Fresh
pub mod Members
