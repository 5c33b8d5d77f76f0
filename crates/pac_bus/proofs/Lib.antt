pub mod Bytes
pub mod Memories
pub mod Acting
pub mod EventLines
