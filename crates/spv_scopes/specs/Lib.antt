pub mod Leading
pub mod Scopes
