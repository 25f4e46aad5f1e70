pub mod AuditLines
pub mod Outcomes
pub mod FillLines
pub mod Lines
pub mod OutcomeLines
pub mod Printing
pub mod Statuses
