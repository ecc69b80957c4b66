pub mod Removals
