pub mod Taken
pub mod Ordered
