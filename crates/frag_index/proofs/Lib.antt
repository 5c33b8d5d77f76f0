mod Adding
mod Calling
mod Cutting
mod Stepping
mod Walking
