pub mod Names
pub mod ByProduct
pub mod CellFaults
pub mod FaultMaps
pub mod FaultWalks
pub mod Faults
pub mod Noted
