pub mod Answered
pub mod DirectoryLaws
pub mod OnDisk
pub mod Replayed
pub mod RememberedLaws
pub mod Supposed
mod CutOff
mod Meeting
pub mod Alike
