pub mod Parts
pub mod Kept
pub mod Asked
pub mod Agreed
pub mod Proposals
pub mod Numbers
pub mod Searched
