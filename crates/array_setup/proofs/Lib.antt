pub mod BoolLemmas
pub mod ComponentsLemmas
pub mod GlobLemmas
pub mod KeepsLemmas
pub mod MatchingLemmas
pub mod PathLemmas
pub mod TextLemmas
