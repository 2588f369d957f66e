pub mod Seats
pub mod Doings
pub mod Meshes
pub mod Searches
pub mod Lines
