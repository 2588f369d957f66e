pub mod Levels
pub mod Weights
pub mod Steps
pub mod Readiness
pub mod Passing
pub mod Recording
pub mod Anew
