pub mod Small
pub mod Exactly
pub mod Names
pub mod Questions
pub mod Walk
pub mod Counting
pub mod Examples
