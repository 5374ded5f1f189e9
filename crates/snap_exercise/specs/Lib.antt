pub mod Exercise
pub mod Exercised
pub mod Generated
pub mod Mends
