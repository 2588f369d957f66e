pub mod Bools
pub mod Results
