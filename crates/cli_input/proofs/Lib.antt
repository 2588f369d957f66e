pub mod Checked
pub mod Read
