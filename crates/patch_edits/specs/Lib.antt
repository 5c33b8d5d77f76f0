pub mod Visits
pub mod Edits
pub mod Deletions
pub mod Commands
