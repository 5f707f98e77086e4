pub mod Carrying
pub mod Into
