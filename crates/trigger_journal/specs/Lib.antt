pub mod Places
pub mod Requests
pub mod Asked
pub mod Ahead
pub mod Writing
pub mod Read
