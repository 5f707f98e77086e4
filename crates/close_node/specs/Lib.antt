pub mod Questions
pub mod Changing
pub mod Back
