pub mod Laws
pub mod Facts
