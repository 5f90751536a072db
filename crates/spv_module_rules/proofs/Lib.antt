pub mod OneNumber
pub mod Together
pub mod Joined
pub mod Short
pub mod Few
pub mod Reached
