pub mod Rows
pub mod Said
pub mod Reading
