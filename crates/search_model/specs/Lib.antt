pub mod Cells
pub mod Quantities
pub mod Queues
pub mod Blocks
