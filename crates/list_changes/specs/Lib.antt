pub mod NewList
pub mod Leaving
pub mod Clearable
