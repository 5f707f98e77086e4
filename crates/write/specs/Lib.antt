pub mod Laid
pub mod Offsets
pub mod Work
pub mod Links
pub mod Writing
pub mod Ways
pub mod Rules
