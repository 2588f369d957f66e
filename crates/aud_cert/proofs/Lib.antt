pub mod Recording
pub mod Reading
pub mod Parts
pub mod Bytes
pub mod LineBytes
pub mod Back
mod Limits
pub mod LineSpelled
mod OrderSpelled
