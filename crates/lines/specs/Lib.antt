pub mod Digits
pub mod Lines
pub mod Steps
pub mod inside
