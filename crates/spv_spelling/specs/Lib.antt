pub mod Text
pub mod Spelling
pub mod Clean
pub mod Paths
pub mod Whole
pub mod Facts
