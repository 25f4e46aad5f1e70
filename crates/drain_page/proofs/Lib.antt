mod Coordinates
pub mod DegreeSteps
