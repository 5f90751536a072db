pub mod Bindings
pub mod Names
pub mod Sizes
pub mod Functions
pub mod Broken
pub mod Slots
pub mod Naming
pub mod Kept
