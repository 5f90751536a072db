pub mod Fits
pub mod Shape
pub mod Walked
pub mod Made
pub mod Placed
pub mod Texts
pub mod Functions
pub mod Again
