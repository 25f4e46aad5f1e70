pub mod Names
pub mod Contents
pub mod Facts
pub mod Faults
pub mod Lines
