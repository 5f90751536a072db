pub mod Depth
pub mod Declarations
pub mod Constants
pub mod Broken
pub mod Sound
pub mod Laws
pub mod Facts
