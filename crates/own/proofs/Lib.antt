pub mod Slots
pub mod Changes
pub mod Stored
