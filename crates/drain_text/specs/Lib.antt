pub mod First
pub mod Parts
pub mod Text
