pub mod Meaning
pub mod Standing
pub mod Sound
pub mod Laws
pub mod Facts
