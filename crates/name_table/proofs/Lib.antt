pub mod SpellingLaws
pub mod PlainLaws
pub mod EntryLaws
pub mod NumberLaws
pub mod PartlyLaws
pub mod EnterLaws
pub mod TurnLaws
pub mod TableLaws
