pub mod TreeLaws
pub mod Measured
pub mod Capped
pub mod BookMeasures
pub mod Written
