pub mod Part
pub mod Size
pub mod inside
