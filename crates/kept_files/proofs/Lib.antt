pub mod Aside
pub mod Works
pub mod Trails
pub mod Sounds
pub mod Succeeding
pub mod Unpacks
pub mod Removals
