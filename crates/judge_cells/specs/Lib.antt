pub mod Clashes
pub mod Sources
