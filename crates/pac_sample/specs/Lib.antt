pub mod Description
pub mod Elements
pub mod Numbered
pub mod Script
pub mod Summary
pub mod Wanted
pub mod Worked
