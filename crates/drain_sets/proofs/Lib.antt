pub mod Names
pub mod FileWrites
pub mod HeaderBounds
mod MissingHeaders
