pub mod Laws
pub mod Put
pub mod Window
pub mod Strings
pub mod Outcomes
pub mod Aligned
pub mod BitCases
