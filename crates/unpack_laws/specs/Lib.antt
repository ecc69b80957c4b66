pub mod InHand
pub mod NextOpening
pub mod Whole
pub mod Marked
pub mod Info
pub mod Done
pub mod Called
