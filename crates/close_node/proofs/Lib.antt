pub mod Uses
pub mod NodeTaken
pub mod CloseStages
pub mod Back
