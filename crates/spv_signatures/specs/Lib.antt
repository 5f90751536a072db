pub mod Broken
pub mod Calls
pub mod Contexts
pub mod Functions
pub mod Rows
