pub mod Editing
pub mod Showing
pub mod Code
pub mod Laws
pub mod Facts
