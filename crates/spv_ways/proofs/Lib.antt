pub mod ForwardExits
pub mod ForwardTops
pub mod ForwardRegions
pub mod ForwardOrder
pub mod BackAbove
pub mod BackEdges
pub mod Reached
