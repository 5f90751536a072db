pub mod Flow
pub mod Tops
pub mod Filling
pub mod Steps
pub mod Cases
