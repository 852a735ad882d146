-- What inner functions promise each other, and what proofs go by. Nothing in these files has to be believed.
pub mod Claim
pub mod ReadsBack
pub mod Runs
pub mod Sound
