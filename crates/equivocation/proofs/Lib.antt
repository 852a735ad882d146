pub mod Sound
pub mod Lists
pub mod Pairs
pub mod Handed
pub mod Laws
pub mod Sentences
pub mod Examples
pub mod Tied
