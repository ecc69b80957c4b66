pub mod Names
pub mod Told
pub mod Grammar
pub mod Faults
pub mod Spelling
