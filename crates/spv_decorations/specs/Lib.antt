pub mod Decorations
pub mod Index
pub mod Targets
pub mod Globals
