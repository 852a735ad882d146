pub mod Example
pub mod Lines
pub mod inside
pub mod Steps
