pub mod Limits
pub mod Recorded
pub mod LineText
pub mod CertText
pub mod Written
pub mod Certified
pub mod Laws
