pub mod Cases
pub mod StepsMade
pub mod ApplyStages
