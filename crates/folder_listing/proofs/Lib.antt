pub mod JoinedLemmas
pub mod ListedLemmas
pub mod ListingLemmas
