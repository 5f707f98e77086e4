pub mod Each
pub mod RowLaws
pub mod PhraseRows
pub mod RowItems
pub mod WordSlots
pub mod PickLaws
pub mod KeywordLaws
