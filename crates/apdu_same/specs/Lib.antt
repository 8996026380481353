pub mod Comparison
pub mod Walk
