pub mod RowCounts
pub mod ThrottleLemmas
