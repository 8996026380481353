pub mod Tests
pub mod WordLaws
pub mod SoundLaws
pub mod LookupLaws
pub mod SweepLaws
pub mod SlotCases
