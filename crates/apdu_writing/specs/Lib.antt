pub mod Quill
pub mod Rows
pub mod Applications
pub mod Link
pub mod Answer
