pub mod Breakers
pub mod DependentLaws
pub mod LeftLaws
pub mod MeetingLaws
pub mod QueueLaws
pub mod UnpackLaws
pub mod WaitingLaws
