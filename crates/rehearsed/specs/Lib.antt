pub mod Agrees
pub mod Sentences
pub mod Example
