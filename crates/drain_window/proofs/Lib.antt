pub mod Names
pub mod JudgedWindows
pub mod RowLists
pub mod SeamCells
pub mod SinkLists
pub mod WindowVerdicts
pub mod WindowReports
