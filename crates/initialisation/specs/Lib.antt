pub mod Link
pub mod Elements
pub mod Offer
pub mod Known
pub mod Hearing
pub mod Searching
pub mod Theorems
pub mod LinkCases
