pub mod Crosses
pub mod Lettered
pub mod Shown
