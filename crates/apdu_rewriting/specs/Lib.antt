pub mod Rewriting
pub mod RoundTrip
