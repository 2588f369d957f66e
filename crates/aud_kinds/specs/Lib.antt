pub mod Objects
pub mod Kinds
pub mod Orders
