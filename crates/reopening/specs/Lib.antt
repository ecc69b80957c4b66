pub mod Opens
pub mod ControlFiles
pub mod Trees
