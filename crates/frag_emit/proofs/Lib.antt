pub mod Standing
pub mod Printing
