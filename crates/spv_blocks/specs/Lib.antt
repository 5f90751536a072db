pub mod Blocks
pub mod Cutting
pub mod Edges
pub mod Laws
pub mod Places
pub mod Seen
pub mod Tables
