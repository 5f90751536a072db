pub mod Broken
pub mod Forms
pub mod Operands
pub mod Results
