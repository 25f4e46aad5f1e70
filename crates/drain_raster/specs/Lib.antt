pub mod Names
pub mod Pixels
pub mod Bytes
pub mod RasterRows
pub mod Kinds
pub mod Elevations
pub mod Placing
pub mod Laws
