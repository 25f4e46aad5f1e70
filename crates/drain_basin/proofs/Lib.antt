pub mod Names
pub mod Bits
pub mod Labels
pub mod Trees
