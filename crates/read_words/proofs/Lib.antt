pub mod Begun
pub mod ReadTurns
pub mod MeetLaws
pub mod FromLaws
