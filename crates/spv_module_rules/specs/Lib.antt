pub mod Broken
pub mod Kept
pub mod Laws
