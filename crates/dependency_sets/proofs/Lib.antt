pub mod KeptLaws
pub mod LargestLaws
pub mod ListingLaws
pub mod MeetsLaws
pub mod RemovalLaws
pub mod StrikingLaws
