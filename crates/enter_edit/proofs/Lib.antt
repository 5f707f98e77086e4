mod Longest
mod EachCarried
mod CarriedStages
pub mod EnterStages
