pub mod Names
pub mod Compared
pub mod ConRows
pub mod Grounds
pub mod Laws
