pub mod Lists
pub mod Bools
pub mod Nothing
pub mod Ends
pub mod Edited
pub mod Dropped
pub mod Replaced
pub mod SmallEdits
