pub mod Sets
pub mod Quorums
pub mod Options
pub mod Rules
pub mod Sentences
pub mod inside
