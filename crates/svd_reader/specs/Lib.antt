pub mod DoubleNames
pub mod Faults
pub mod DescribedTree
pub mod TreeFacts
pub mod Described
pub mod Refusals
pub mod Walk
