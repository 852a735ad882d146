pub mod Refusals
pub mod Small
pub mod Asked
pub mod Tied
