pub mod Alike
pub mod Uses
pub mod Laws
