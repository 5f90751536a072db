pub mod Pruned
pub mod Laws
pub mod Facts
