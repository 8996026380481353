pub mod Inking
pub mod Figures
pub mod Pieces
pub mod Flat
pub mod Applications
