pub mod Names
pub mod NumberLemmas
pub mod ReadLemmas
pub mod FactLemmas
pub mod ListLemmas
pub mod TextLemmas
pub mod FaultLemmas
pub mod SpacingLists
