pub mod Standing
pub mod Ruling
pub mod Clashing
