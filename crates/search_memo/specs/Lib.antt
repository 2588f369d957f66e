pub mod Choices
pub mod Memos
pub mod StoredStates
pub mod Recorders
pub mod Known
