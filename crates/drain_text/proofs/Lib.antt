pub mod Names
pub mod Digits
pub mod Joining
pub mod LastDigits
pub mod Printed
pub mod Splitting
