pub mod Clashes
pub mod Stripped
pub mod Rebuilt
pub mod PassedItems
