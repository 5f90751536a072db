pub mod Growth
pub mod Beginnings
pub mod Told
pub mod Opened
pub mod Lacking
pub mod Joining
