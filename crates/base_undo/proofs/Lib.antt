pub mod Ints
pub mod Keeping
