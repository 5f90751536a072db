pub mod KeySets
pub mod Marking
pub mod SameTypes
