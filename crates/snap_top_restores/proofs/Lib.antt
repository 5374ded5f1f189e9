mod AsFixedLemmas
mod CountLemmas
mod FixedLineLemmas
mod LostCellLemmas
mod NamedLemmas
mod ReachedLemmas
