pub mod Searches
pub mod Levels
pub mod Tried
pub mod Readiness
pub mod Frames
