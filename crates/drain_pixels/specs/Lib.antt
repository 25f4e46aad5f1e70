pub mod Names
pub mod Stored
pub mod Lanes
pub mod Ground
