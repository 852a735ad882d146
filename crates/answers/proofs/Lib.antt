pub mod Answers
pub mod Calls
pub mod Entries
pub mod Example
pub mod Worked
pub mod Whole
