pub mod Rows
pub mod Looking
pub mod DirectoryCases
