pub mod LowestLemmas
mod TreeLemmas
mod WordLemmas
