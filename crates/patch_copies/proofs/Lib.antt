pub mod Named
pub mod Copied
pub mod Copying
pub mod CopySound
