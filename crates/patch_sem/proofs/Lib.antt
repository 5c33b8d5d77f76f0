pub mod Commuting
mod Copied
mod Deleting
mod Exchanges
pub mod Outcomes
mod Renamed
