pub mod Tasks
pub mod Searched
pub mod Laws
pub mod Ends
pub mod Pools
pub mod Settling
