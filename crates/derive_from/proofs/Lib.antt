pub mod Listing
pub mod Ways
