pub mod Strict
pub mod Pours
pub mod Members
pub mod Leftovers
