pub mod Once
pub mod Parts
pub mod Ends
pub mod Opens
pub mod Listed
