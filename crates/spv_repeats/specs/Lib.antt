pub mod Repeats
pub mod Marks
pub mod Steps
