pub mod Drafted
pub mod Named
pub mod Lines
pub mod Tallies
pub mod Fresh
pub mod Functions
