pub mod Slots
pub mod Filled
