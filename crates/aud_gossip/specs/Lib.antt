pub mod Receiving
pub mod Deltas
pub mod Faults
pub mod Worlds
