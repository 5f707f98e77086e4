pub mod Questions
pub mod Judging
