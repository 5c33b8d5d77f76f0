pub mod Children
pub mod Found
pub mod Extents
pub mod Ends
pub mod Registers
pub mod Blocks
pub mod Crates
