pub mod Room
pub mod Sums
pub mod Between
pub mod Laws
pub mod Rests
