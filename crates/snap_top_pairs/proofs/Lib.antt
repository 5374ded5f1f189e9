mod AuditedLemmas
mod FoundLemmas
mod ListedLemmas
mod LostLemmas
mod ReadLemmas
mod TwiceLemmas
