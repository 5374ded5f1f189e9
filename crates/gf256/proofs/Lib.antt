mod Additive
mod HalfLemmas
mod InverseLemmas
mod PowerLemmas
mod ProductLemmas
mod ShiftLemmas
mod TableLemmas
mod Tests
pub mod Theorems
mod WorkedExamples
