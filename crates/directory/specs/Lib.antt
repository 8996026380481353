pub mod Part
pub mod Directory
pub mod Gathered
pub mod DirectoryCases
