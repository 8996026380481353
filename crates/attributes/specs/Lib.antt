pub mod Serving
pub mod Inside
