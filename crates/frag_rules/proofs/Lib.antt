pub mod Distinct
mod Entries
mod Firsts
mod Gathering
pub mod Insides
pub mod Keys
pub mod Measuring
mod Misfits
mod PreludeWords
mod RegisterTests
mod Results
pub mod Rooms
pub mod Sizes
mod BlockTests
pub mod ByName
