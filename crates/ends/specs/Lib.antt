pub mod Shapes
pub mod Edits
pub mod Books
pub mod Kept
