pub mod PointerTypes
pub mod Declared
pub mod Answering
pub mod Shapes
