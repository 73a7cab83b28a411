pub mod Answers
pub mod AnswerLine
