pub mod Rearranged
pub mod Answered
pub mod Nowhere
pub mod Unsettled
