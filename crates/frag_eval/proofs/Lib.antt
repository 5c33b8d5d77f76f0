pub mod Words
pub mod Leaving
pub mod Coursing
pub mod Stepping
mod Lines
mod Cutting
mod OnTypes
mod Doing
mod Growing
mod Scripts
mod CalledPlaces
mod Setting
mod Planning
mod SameKeys
