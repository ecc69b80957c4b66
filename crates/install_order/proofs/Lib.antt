pub mod BearerLaws
pub mod NeedLaws
pub mod RoundLaws
pub mod TakingLaws
