pub mod Rows
pub mod Places
pub mod BackHeaders
pub mod Steps
pub mod Passed
