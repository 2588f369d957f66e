pub mod Shapes
pub mod Cursors
pub mod Kids
pub mod Silent
pub mod Moves
