pub mod Carry
pub mod Demand
pub mod Votes
pub mod Left
pub mod Spelled
pub mod Shown
pub mod Uncut
