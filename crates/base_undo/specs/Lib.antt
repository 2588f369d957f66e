pub mod Entries
pub mod Keeps
pub mod Digests
