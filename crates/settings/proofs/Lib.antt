pub mod Delays
pub mod Allowed
