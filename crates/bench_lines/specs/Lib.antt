pub mod Hex
pub mod Inside
pub mod Line
pub mod Numerals
pub mod RoundTrip
pub mod Splitting
pub mod Text
pub mod LineCases
