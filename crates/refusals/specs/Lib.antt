pub mod Check
pub mod CheckCases
pub mod Refusal
