pub mod Layout
pub mod Sentences
pub mod Reading
pub mod Valid
pub mod Walk
