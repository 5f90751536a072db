pub mod Control
pub mod Reading
