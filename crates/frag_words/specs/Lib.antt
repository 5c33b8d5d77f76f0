pub mod Words
pub mod Lines
pub mod Joined
pub mod Readings
pub mod Fronts
