pub mod LastBytes
mod Lookup
pub mod TakenNames
