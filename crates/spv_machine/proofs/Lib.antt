pub mod Spelling
pub mod Silence
pub mod Renaming
pub mod Schedules
pub mod Computing
