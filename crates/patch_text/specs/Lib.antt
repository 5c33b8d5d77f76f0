pub mod Parts
pub mod PlainScalars
pub mod Scalars
pub mod FlowCollections
pub mod Contents
pub mod Lines
pub mod CutLines
pub mod SpokenPatterns
