pub mod Runs
pub mod Members
pub mod Items
pub mod Alternatives
pub mod Stars
pub mod Walks
pub mod PlainItems
