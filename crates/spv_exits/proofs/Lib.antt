pub mod Branching
pub mod CrowdedBlocks
pub mod CountedReturns
pub mod OwnTargets
pub mod OneNumber
pub mod OneByOne
pub mod Capped
