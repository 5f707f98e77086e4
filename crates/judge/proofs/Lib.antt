pub mod QuestionLaws
mod PartLaws
pub mod RulesJudged
pub mod SheetAndBook
pub mod Deciding
pub mod RuleRefusals
