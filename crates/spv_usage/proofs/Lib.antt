pub mod Integers
pub mod Stepping
