pub mod Merges
pub mod Settled
pub mod Paths
pub mod Onward
pub mod SmallSpellings
