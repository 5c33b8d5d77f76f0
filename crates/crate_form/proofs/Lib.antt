pub mod Versions
pub mod Standing
pub mod Sound
pub mod Named
pub mod Units
pub mod Forming
pub mod Elements
pub mod Peripherals
