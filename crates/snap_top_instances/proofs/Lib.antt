pub mod EndsLemmas
pub mod FullLemmas
pub mod SaidLemmas
pub mod SmoothLemmas
pub mod ToldLemmas
