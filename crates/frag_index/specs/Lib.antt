pub mod Calls
pub mod Sites
pub mod Walks
