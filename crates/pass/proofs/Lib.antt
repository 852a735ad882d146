pub mod Stored
pub mod Runs
pub mod Passes
