pub mod Scene
pub mod Ways
pub mod Ends
pub mod Loops
pub mod Arms
pub mod Functions
pub mod Parsed
