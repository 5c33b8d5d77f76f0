pub mod FixedWords
pub mod Tokens
pub mod Groups
pub mod Statements
pub mod ScriptLines
pub mod Reading
pub mod Telling
