pub mod Numbering
pub mod Seats
pub mod Listed
pub mod Indexes
pub mod Told
pub mod Parts
