pub mod Places
pub mod Availability
pub mod Kept
