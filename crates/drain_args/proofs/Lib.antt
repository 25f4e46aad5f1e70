pub mod Names
pub mod Commas
pub mod Decimals
