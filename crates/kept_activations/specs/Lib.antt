pub mod Known
pub mod Pending
pub mod Hitting
pub mod Processing
pub mod Journal
pub mod Commands
