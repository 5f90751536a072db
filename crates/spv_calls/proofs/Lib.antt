pub mod Lists
pub mod Bodies
pub mod Settled
pub mod Listed
pub mod Interfaces
pub mod Searching
pub mod FirstBroken
pub mod Deciding
