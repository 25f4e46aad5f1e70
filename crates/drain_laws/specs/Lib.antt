pub mod Names
pub mod Floats
pub mod Laws
pub mod Padding
pub mod PartOf
