pub mod Kinds
pub mod ForwardRows
pub mod Failures
pub mod Notes
pub mod Stages
pub mod EndStates
