pub mod Names
pub mod FileWrites
pub mod GivenSpacings
pub mod Missing
pub mod ProductHeaders
