pub mod Names
pub mod ReadBack
pub mod Spelling
pub mod Numbers
