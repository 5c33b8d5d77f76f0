pub mod WrittenUpTo
pub mod HexadecimalDigits
