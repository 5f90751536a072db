pub mod Broken
pub mod Orderings
pub mod Stages
pub mod Storage
