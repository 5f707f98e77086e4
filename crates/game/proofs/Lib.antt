pub mod Search
pub mod Strategies
pub mod Answer
pub mod Examples
pub mod DisruptionPasses
pub mod Histories
pub mod Chosen
