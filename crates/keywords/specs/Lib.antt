pub mod Rows
pub mod Phrases
