pub mod Nesting
pub mod Parsing
pub mod Reading
pub mod Depth
pub mod Survey
