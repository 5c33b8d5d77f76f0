pub mod Calls
pub mod Fields
pub mod Listing
pub mod Masks
pub mod Members
pub mod Registers
pub mod Walk
pub mod Worked
