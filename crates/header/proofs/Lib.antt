pub mod Reading
pub mod Writing
pub mod ReadingBack
pub mod WritingBack
pub mod RoundTrip
pub mod HeaderCases
