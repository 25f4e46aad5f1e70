pub mod Patterns
pub mod Words
