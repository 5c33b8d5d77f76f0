pub mod Readings
pub mod Rows
pub mod Filled
pub mod Faultless
