pub mod Steps
pub mod Edits
pub mod Kept
pub mod Soundness
pub mod Shows
pub mod Becoming
pub mod Visits
