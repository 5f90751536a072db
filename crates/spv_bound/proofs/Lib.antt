pub mod Places
pub mod Greatest
