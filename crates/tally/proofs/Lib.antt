pub mod Changes
pub mod Votes
pub mod Reports
