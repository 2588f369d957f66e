pub mod Fronts
pub mod Adding
pub mod Own
pub mod Written
pub mod Growing
pub mod Crosses
pub mod Captures
