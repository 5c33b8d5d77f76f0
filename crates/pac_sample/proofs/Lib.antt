pub mod Readings
pub mod Numbered
pub mod Registers
pub mod Lengths
