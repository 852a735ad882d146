pub mod Carried
pub mod Table
pub mod inside
