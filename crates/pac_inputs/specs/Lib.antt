pub mod Gathering
pub mod Shelves
pub mod Reads
