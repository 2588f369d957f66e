pub mod Clauses
pub mod Units
pub mod Values
pub mod Touching
