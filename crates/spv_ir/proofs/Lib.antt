pub mod Placing
pub mod Modules
pub mod Drafts
