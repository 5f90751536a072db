pub mod Walk
pub mod Definitions
pub mod Said
pub mod Places
pub mod ReadIds
pub mod Declared
pub mod Tables
pub mod Whole
