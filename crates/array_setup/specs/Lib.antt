pub mod Glob
pub mod Keeps
pub mod Matching
pub mod Pattern
pub mod Setup
pub mod Walk
