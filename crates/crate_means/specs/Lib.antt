pub mod RegisterIs
pub mod BlockIs
pub mod CrateIs
pub mod Worked
pub mod Laws
