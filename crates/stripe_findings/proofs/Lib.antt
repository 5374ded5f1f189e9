pub mod SlotLemmas
pub mod FindingLemmas
pub mod ReadLemmas
pub mod TellingLemmas
