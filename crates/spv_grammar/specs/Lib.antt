pub mod Enumerants
pub mod Table
pub mod Text
pub mod Operands
pub mod Roles
pub mod Fronts
