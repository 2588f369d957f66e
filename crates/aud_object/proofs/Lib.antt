pub mod Rows
pub mod Replays
pub mod Legality
pub mod Places
pub mod Proper
pub mod Orders
