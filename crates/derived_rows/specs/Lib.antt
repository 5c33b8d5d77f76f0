pub mod Sources
pub mod Merging
pub mod Deriving
pub mod Dependence
pub mod Faults
pub mod Laws
pub mod Worked
