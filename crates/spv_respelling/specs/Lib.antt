pub mod Normal
pub mod Laws
pub mod Facts
