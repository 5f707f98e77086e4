pub mod BlockMade
pub mod EditBlocks
pub mod EditAnswers
pub mod LoggedEdits
