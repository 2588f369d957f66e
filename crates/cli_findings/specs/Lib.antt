pub mod Searches
pub mod Says
