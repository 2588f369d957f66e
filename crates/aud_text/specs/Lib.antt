pub mod Limits
pub mod Lines
pub mod Json
pub mod Orders
pub mod FactText
pub mod Written
pub mod PlanText
pub mod Spelled
