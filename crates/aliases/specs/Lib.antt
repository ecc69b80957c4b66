pub mod Aliases
pub mod Entries
pub mod Links
pub mod Reading
pub mod Shipped
pub mod Stops
pub mod Table
pub mod Ways
