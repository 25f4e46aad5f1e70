pub mod Names
pub mod Acceptance
pub mod AuditAnswers
pub mod AuditDevices
pub mod BodyAnswers
mod HeaderAnswers
pub mod InputLemmas
pub mod LayoutAnswers
pub mod RowStart
pub mod Order
pub mod OutcomeLemmas
pub mod RasterSteps
mod RowAnswers
mod RowCheck
mod RowDevices
pub mod RowGiven
pub mod RowReads
pub mod SinkAnswers
pub mod SpacingAnswers
pub mod StartAnswers
pub mod TileBodies
pub mod TileSteps
pub mod DemSteps
pub mod DemAnswers
pub mod OneAnswer
pub mod SameGrids
pub mod SameAnswers
pub mod TilePixels
