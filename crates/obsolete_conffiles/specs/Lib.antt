pub mod Yields
