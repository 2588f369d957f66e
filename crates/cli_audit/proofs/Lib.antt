pub mod Seating
pub mod Sharing
pub mod Ending
pub mod Saying
pub mod Meshing
pub mod Connecting
pub mod Crosses
