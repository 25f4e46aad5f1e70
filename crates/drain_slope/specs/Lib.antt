pub mod Names
pub mod Key
pub mod Fractions
pub mod Terms
pub mod Singles
