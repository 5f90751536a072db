pub mod Statements
pub mod Types
pub mod Constants
pub mod Meanings
pub mod Parts
pub mod Computations
pub mod Facts
