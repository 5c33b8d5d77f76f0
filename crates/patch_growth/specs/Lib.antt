pub mod Growths
pub mod Grown
