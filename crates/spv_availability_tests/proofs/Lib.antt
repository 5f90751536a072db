mod Functions
mod Spelled
