pub mod Flows
pub mod Passing
pub mod Fillings
pub mod Turning
pub mod StepEdges
pub mod Falling
