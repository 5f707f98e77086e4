pub mod Code
pub mod Heads
pub mod Reading
pub mod Part
pub mod Questions
pub mod Stands
pub mod Patterns
pub mod Marked
