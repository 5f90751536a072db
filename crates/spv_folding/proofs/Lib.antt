pub mod Packing
pub mod Booleans
pub mod Forms
pub mod Extraction
pub mod Shuffling
pub mod Composites
