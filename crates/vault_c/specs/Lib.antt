pub mod Numbers
pub mod Refusals
pub mod Asked
pub mod inside
