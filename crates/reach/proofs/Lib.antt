pub mod Laws
pub mod Kept
pub mod Tied
pub mod Examples
