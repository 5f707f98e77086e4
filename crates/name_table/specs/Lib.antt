pub mod NameSlots
pub mod Entries
