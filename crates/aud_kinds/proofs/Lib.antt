pub mod Sets
pub mod Orders
