pub mod Fields
pub mod Forms
pub mod Numbers
pub mod Doings
pub mod Laws
pub mod Worked
