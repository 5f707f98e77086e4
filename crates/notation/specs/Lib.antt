pub mod Grammar
pub mod Spell
pub mod Parse
pub mod Layout
pub mod Words
pub mod Faults
