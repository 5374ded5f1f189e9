pub mod LookUpLemmas
pub mod PlacingLemmas
pub mod SelectLemmas
