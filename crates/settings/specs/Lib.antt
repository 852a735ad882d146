pub mod Settings
pub mod Vaults
pub mod inside
