pub mod Structured
pub mod Spots
pub mod Laws
pub mod Facts
