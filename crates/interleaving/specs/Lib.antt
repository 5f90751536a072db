pub mod Machine
pub mod Trace
pub mod Keeps
pub mod Loses
pub mod Simulation
pub mod Laws
pub mod Example
pub mod Small
