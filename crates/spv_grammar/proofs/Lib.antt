pub mod OperandSteps
pub mod Rows
pub mod RoleCounts
pub mod FrontParts
