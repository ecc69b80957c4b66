mod Readable
mod InNameOrder
mod Renewing
mod Roots
pub mod Named
pub mod OneTable
