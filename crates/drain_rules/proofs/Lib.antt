pub mod Names
mod EqualGrids
pub mod AllCells
pub mod AreaGrids
pub mod CountBounds
pub mod Faults
pub mod GridLemmas
pub mod InlandCells
pub mod KeptCells
pub mod LabelSteps
pub mod LanedPatches
pub mod PartFaults
pub mod PassedCells
pub mod RightVoids
pub mod RowLemmas
pub mod RowPasses
pub mod RowPatches
