pub mod Fronts
pub mod FixedText
pub mod Numbers
pub mod Steps
pub mod Follows
pub mod Lists
mod WorkedNumbers
