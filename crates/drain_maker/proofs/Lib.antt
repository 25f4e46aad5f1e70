pub mod Names
mod Acceptance
mod MosaicHeaders
mod Placing
pub mod DerivedRasters
pub mod Completed
pub mod FileLemmas
pub mod RoutedProducts
pub mod ShownRasters
pub mod MosaicAnswers
pub mod TileLists
pub mod UnitSpacing
pub mod DemLemmas
pub mod DemReading
pub mod KeptNumbers
pub mod NarrowDems
