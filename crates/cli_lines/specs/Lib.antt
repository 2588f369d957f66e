pub mod Jobs
pub mod Evidences
pub mod Outcomes
pub mod Line
