pub mod Classes
pub mod Fronts
pub mod Numbers
pub mod Reading
pub mod Steps
pub mod Follows
pub mod Lists
