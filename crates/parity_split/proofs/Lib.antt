pub mod JoinedLemmas
pub mod PartsLemmas
pub mod PieceLemmas
pub mod StepLemmas
pub mod ValueLemmas
pub mod WorksLemmas
pub mod GrowthLemmas
pub mod CutLemmas
pub mod WriteLemmas
pub mod LengthLemmas
pub mod SeenLemmas
pub mod SplitLemmas
pub mod ReadLemmas
mod MakingLemmas
pub mod UntouchedLemmas
