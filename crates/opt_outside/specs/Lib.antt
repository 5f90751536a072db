pub mod Calls
pub mod Seen
pub mod Files
pub mod Store
