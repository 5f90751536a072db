pub mod There
pub mod Facts
pub mod Laws
