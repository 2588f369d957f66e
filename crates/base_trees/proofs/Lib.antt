pub mod Grown
pub mod Cuts
pub mod Remains
pub mod Turns
pub mod Crosses
pub mod Splits
pub mod Alike
pub mod Parts
