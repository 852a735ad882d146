-- What inner functions promise each other, and what proofs go by. Nothing in these files has to be believed.
pub mod Changes
pub mod Parts
pub mod Reports
pub mod Votes
