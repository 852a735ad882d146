pub mod Laws
pub mod Output
