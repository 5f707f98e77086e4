pub mod Raw
pub mod Place
pub mod Laws
pub mod Checking
pub mod Examples
pub mod Questions
pub mod SameTruth
