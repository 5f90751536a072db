pub mod FunctionLines
pub mod Naming
pub mod NormalModules
pub mod Stepwise
