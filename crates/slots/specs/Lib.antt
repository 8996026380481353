pub mod Slots
pub mod Sweep
pub mod Model
pub mod SlotCases
