pub mod Seal
pub mod Forms
pub mod Lanes
