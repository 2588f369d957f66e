pub mod Elsewhere
pub mod Ends
pub mod Kids
pub mod Lines
pub mod Refutes
