pub mod Least
pub mod Rows
pub mod Choice
pub mod Reaching
pub mod Reversing
pub mod Distinct
pub mod Walks
