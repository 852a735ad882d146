pub mod Digits
pub mod Feeding
pub mod Lines
pub mod Paged
pub mod Reading
pub mod Spelled
pub mod Taking
pub mod Whole
