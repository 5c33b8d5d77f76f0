pub mod Names
pub mod Kinds
pub mod Registers
pub mod Blocks
pub mod Places
pub mod Devices
pub mod Laws
pub mod Worked
