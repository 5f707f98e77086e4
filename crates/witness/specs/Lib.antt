pub mod Witnessed
pub mod Walked
pub mod Told
