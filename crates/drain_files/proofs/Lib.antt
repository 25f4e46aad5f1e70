pub mod Names
pub mod Fractions
mod LowestTerms
pub mod PathLemmas
