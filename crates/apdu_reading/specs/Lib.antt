pub mod Cursor
pub mod Rows
pub mod Lists
pub mod Optional
pub mod Applications
pub mod Answers
pub mod Messages
