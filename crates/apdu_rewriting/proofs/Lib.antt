pub mod RoundTrip
pub mod Rewriting
