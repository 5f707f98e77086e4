pub mod Moves
pub mod GameEdits
pub mod Trying
pub mod Goal
pub mod FitsTold
pub mod PlayStages
pub mod Playing
pub mod Right
