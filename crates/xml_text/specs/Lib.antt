pub mod Bytes
pub mod Names
pub mod Marks
pub mod References
pub mod Parts
pub mod Opening
pub mod Views
pub mod Reading
