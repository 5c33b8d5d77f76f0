pub mod Refusals
pub mod Proxies
pub mod Fields
pub mod Lines
pub mod Telling
