pub mod Named
pub mod Call
pub mod Sentences
pub mod Examples
pub mod inside
