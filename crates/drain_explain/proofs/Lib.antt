pub mod Names
mod Elevations
mod Noting
