pub mod Uses
pub mod Types
pub mod Operations
pub mod Constants
pub mod Decorations
pub mod Known
pub mod Whole
