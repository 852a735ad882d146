pub mod Alone
pub mod Frames
pub mod Laws
pub mod Tied
pub mod Examples
