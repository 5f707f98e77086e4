pub mod AnswerLineLaws
