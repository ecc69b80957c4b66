pub mod RowParts
pub mod Matching
pub mod Unnoted
pub mod Growth
pub mod LastNotes
pub mod Ends
pub mod Staging
