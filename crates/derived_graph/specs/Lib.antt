pub mod Graphs
pub mod Places
pub mod Nesting
pub mod Laws
pub mod Facts
