pub mod RowsAnswered
pub mod Shutting
pub mod ClosedRows
mod Tested
pub mod FailingAlike
pub mod RoadsInRows
