pub mod AnswerLine
pub mod Printed
