pub mod Adding
pub mod Built
pub mod KeySets
pub mod AdditionSound
pub mod MadeElements
pub mod Loops
pub mod Parts
pub mod Refused
