pub mod Leasts
pub mod Begun
pub mod Refusals
pub mod Steps
