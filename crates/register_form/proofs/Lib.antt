pub mod Among
pub mod OwnCalls
pub mod Words
pub mod Rules
pub mod Valid
