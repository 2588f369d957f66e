pub mod Adding
pub mod Deeds
pub mod Lists
pub mod Yes
