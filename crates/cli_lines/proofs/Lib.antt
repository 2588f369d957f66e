pub mod Bounds
pub mod Splitting
pub mod FactLines
pub mod HistoryLemmas
pub mod WorkedLines
pub mod Ends
pub mod Consuming
