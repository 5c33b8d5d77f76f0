pub mod Made
pub mod Additions
