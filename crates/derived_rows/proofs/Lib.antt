pub mod Paths
pub mod Stand
pub mod Levels
pub mod Circles
pub mod Seen
pub mod Undone
pub mod Kept
pub mod OneFault
