pub mod Readings
pub mod BitLists
pub mod Searches
pub mod FieldLists
pub mod WordLists
