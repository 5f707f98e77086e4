pub mod Chain
pub mod Examples
