pub mod Norm
pub mod Bodies
pub mod Laws
