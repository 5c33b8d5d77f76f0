pub mod Numbers
pub mod Entries
pub mod Places
pub mod Missing
pub mod Graphs
pub mod Laws
