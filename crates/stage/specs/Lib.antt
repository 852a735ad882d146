pub mod Stage
pub mod Lines
pub mod Sentences
pub mod inside
