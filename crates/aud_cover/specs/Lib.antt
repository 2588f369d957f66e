pub mod Closings
pub mod Openings
pub mod Leading
pub mod Laws
