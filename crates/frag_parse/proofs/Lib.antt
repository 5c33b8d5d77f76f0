pub mod ModuleSteps
pub mod Depth
pub mod CrateSteps
pub mod SurveySteps
pub mod Told
