pub mod Bools
pub mod Mostly
-- What inner functions promise each other, and what proofs go by. Nothing in these files has to be believed.
pub mod Counts
pub mod Views
pub mod Law
