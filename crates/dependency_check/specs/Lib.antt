pub mod Breaking
pub mod Deconfigured
pub mod Departing
pub mod Left
pub mod Queues
pub mod Roles
pub mod Unpack
pub mod Waiting
