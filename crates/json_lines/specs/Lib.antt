pub mod Cutting
pub mod Forms
pub mod Members
pub mod Diverted
pub mod Paragraphs
pub mod Lines
