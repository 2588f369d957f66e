pub mod Offering
mod Joining
pub mod Worlds
