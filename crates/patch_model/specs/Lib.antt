pub mod Acts
pub mod Orders
pub mod Answers
pub mod Readings
pub mod Held
