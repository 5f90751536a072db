pub mod Alike
pub mod Ends
pub mod Flowing
pub mod Turns
pub mod Fitting
pub mod Forms
pub mod Structures
pub mod SmallTrees
