mod Unique
mod Apart
mod NewNames
mod Spelled
