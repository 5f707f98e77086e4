pub mod AskedLaws
pub mod AnswerLaws
pub mod OutputLaws
pub mod Refusals
