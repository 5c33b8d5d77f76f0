pub mod Renaming
pub mod Meeting
