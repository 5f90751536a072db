pub mod Types
pub mod Front
pub mod Standing
pub mod Members
pub mod Zero
pub mod Bodies
pub mod Edited
pub mod WhereAlike
