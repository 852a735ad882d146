-- What inner functions promise each other, and what proofs go by. Nothing in these files has to be believed.
pub mod Kept
pub mod Parts
pub mod Sizes
