pub mod Kids
pub mod Gone
pub mod Walking
pub mod Counting
pub mod Faults
pub mod Arranging
