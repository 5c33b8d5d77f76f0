pub mod Tokens
pub mod Numerals
pub mod Lists
