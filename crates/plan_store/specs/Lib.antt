pub mod Store
pub mod Questions
pub mod Calls
