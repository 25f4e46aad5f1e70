pub mod Names
pub mod FileIds
pub mod FilePaths
pub mod Files
pub mod OpenSpacings
pub mod Simplest
