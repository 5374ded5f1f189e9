pub mod BeginLemmas
pub mod ChangedLemmas
pub mod LivedLemmas
pub mod OnceLemmas
pub mod RepeatedLemmas
pub mod ResumedLemmas
pub mod SeenLemmas
pub mod TakenTrees
