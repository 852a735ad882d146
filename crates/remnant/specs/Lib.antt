pub mod Sentences
pub mod Examples
pub mod inside
