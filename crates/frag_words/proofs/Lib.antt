pub mod Readings
pub mod Lists
pub mod Further
pub mod Joints
pub mod Words
