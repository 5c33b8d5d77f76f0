pub mod Counts
pub mod FragmentTexts
pub mod PatchTexts
pub mod FaultTexts
pub mod Layers
pub mod Statuses
pub mod Classes
