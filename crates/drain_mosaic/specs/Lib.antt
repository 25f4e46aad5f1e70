pub mod Names
pub mod Tiling
pub mod GivenTiles
pub mod Mosaic
pub mod JoinedRows
pub mod Laws
pub mod Streams
pub mod PlacedRows
