pub mod Slices
pub mod Functions
pub mod BlockSteps
pub mod Constructs
pub mod PlaceSteps
pub mod FoundLaws
pub mod EdgeLaws
pub mod EndTargets
