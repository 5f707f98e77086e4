pub mod Meeting
pub mod FromWords
