pub mod Module
pub mod Watching
pub mod Laws
