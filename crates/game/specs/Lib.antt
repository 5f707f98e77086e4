pub mod Game
pub mod Strategies
pub mod Examples
pub mod Search
