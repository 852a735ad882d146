pub mod Examples
pub mod Faults
pub mod Laws
pub mod Spelling
pub mod Steps
pub mod Theorems
