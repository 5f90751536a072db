pub mod Depth
pub mod Short
pub mod Facts
