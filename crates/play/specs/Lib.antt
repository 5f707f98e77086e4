pub mod Questions
pub mod Standing
pub mod Right
