pub mod Bodies
pub mod Listing
pub mod Facts
