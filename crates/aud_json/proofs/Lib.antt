pub mod Keys
pub mod Quick
