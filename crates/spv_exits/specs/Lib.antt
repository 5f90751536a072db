pub mod Exits
pub mod Laws
