pub mod Tree
pub mod Sizes
pub mod Stack
