pub mod Fields
pub mod Kept
pub mod Overlaps
pub mod Spots
pub mod Walk
pub mod Search
pub mod Sought
pub mod Worked
