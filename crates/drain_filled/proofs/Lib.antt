pub mod Names
pub mod OpenGrounds
pub mod FirstCon
pub mod FirstUnfilled
pub mod LeastSurfaces
pub mod MarkedSurfaces
