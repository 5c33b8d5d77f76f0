pub mod StartNumbers
pub mod Places
pub mod Runs
pub mod Surfaces
pub mod Entries
pub mod Rows
pub mod Walks
pub mod EntryRows
