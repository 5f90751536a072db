pub mod Finite
pub mod Known
pub mod Reading
pub mod TypesNamed
pub mod TypesOutside
pub mod Types
pub mod Whole
