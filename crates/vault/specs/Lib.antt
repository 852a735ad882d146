pub mod Answers
pub mod inside
