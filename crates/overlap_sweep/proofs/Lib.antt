mod Stated
pub mod First
pub mod Walks
pub mod Searching
pub mod Sharing
pub mod Flat
pub mod Even
pub mod Overlapping
