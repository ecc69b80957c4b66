pub mod Overlays
mod Few
