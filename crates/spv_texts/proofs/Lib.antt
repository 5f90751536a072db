pub mod Marks
pub mod Functions
pub mod Labels
