pub mod Broken
pub mod Composites
pub mod Forms
pub mod Laws
pub mod Lengths
pub mod Memory
pub mod Numbering
pub mod Vectors
