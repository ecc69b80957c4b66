pub mod Numbered
pub mod Members
pub mod Named
pub mod Apart
pub mod Unheeded
