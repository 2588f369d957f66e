pub mod Faults
pub mod Keys
pub mod Judged
