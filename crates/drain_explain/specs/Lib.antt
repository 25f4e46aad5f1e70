pub mod Names
pub mod ElevationRanges
pub mod Explanations
pub mod RefusalDetails
pub mod Slopes
