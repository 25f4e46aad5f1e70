pub mod Names
mod AlikePatches
mod PaddedCells
mod PaddedVerdicts
mod PaddedRules
mod PaddedRuns
pub mod ChosenWays
pub mod CorrectByWays
pub mod SameWays
pub mod FloatBits
pub mod NearEdges
pub mod OwnRasters
pub mod PartLocal
pub mod SteepestWays
pub mod SurfacePart
