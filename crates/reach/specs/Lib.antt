pub mod Call
pub mod Sentences
pub mod Examples
