pub mod Beginnings
pub mod Refuting
pub mod Steps
pub mod Distinct
pub mod Opened
pub mod Emptied
pub mod Leads
