pub mod Words
pub mod Parts
pub mod MessageText
pub mod Lines
pub mod Ink
