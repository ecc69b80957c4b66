pub mod Named
pub mod Pushed
pub mod Among
pub mod Apart
