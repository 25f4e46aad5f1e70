pub mod Names
pub mod GridRows
pub mod RowBuffers
