pub mod Needs
pub mod Gathering
pub mod Settling
pub mod Ranks
pub mod Levels
pub mod Children
pub mod Below
pub mod Laws
