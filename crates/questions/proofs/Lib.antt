pub mod Laws
pub mod Sentences
