pub mod CarriedSizes
pub mod Passing
