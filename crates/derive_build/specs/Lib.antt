pub mod Nodes
pub mod Taking
pub mod Children
pub mod Tables
pub mod Filling
pub mod Making
