pub mod Answer
pub mod ElementWords
pub mod Items
pub mod LinkWords
pub mod RowWords
pub mod TableWords
pub mod Word
pub mod WordCases
