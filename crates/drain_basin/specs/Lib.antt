pub mod Admitted
pub mod Ahead
pub mod Parts
