pub mod BlockFaults
pub mod FunctionFaults
pub mod OwnLabels
