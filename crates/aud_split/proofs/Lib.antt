pub mod Tasks
pub mod Closing
pub mod Keeping
pub mod Searched
pub mod Numbers
pub mod Settling
pub mod Crosses
pub mod Pooled
