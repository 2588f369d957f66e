pub mod Logs
pub mod Meanings
pub mod Counts
pub mod Rules
pub mod Said
pub mod Faults
pub mod Laws
