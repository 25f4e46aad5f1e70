pub mod Names
pub mod Clusters
pub mod PlaceTexts
pub mod Requests
pub mod SpacingTexts
