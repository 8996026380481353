pub mod Bits
pub mod Strings
pub mod Window
pub mod BitCases
