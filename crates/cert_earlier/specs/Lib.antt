pub mod Beginnings
pub mod Landings
pub mod Moves
pub mod OfShapes
pub mod PrefixKeys
pub mod Resting
