pub mod Close
pub mod Source
pub mod Tail
pub mod Pairs
pub mod Values
pub mod Filling
pub mod Staying
pub mod Told
