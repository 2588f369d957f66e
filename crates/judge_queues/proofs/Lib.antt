pub mod Running
pub mod Adders
pub mod Placing
pub mod Leaving
pub mod Lawful
pub mod Listing
