pub mod Keywords
pub mod PreludeNames
pub mod Identifiers
pub mod Laws
