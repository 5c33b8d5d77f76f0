pub mod Rising
pub mod Lookup
