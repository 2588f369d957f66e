pub mod Clouds
pub mod Moves
pub mod Worlds
pub mod Faults
pub mod Took
pub mod Headline
pub mod Logs
