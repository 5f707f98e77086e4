pub mod Words
pub mod Transpose
