pub mod Names
pub mod StoredLemmas
pub mod PixelBounds
pub mod GroundLemmas
