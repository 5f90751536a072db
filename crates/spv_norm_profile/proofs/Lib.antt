pub mod Entered
pub mod Meaning
pub mod Words
pub mod Whole
