pub mod LaneLemmas
pub mod LoadLemmas
pub mod MessageLemmas
pub mod RoundLemmas
pub mod StageLemmas
