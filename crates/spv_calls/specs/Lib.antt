pub mod Calls
pub mod Interfaces
pub mod Broken
pub mod Kept
