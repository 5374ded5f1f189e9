pub mod Blocked
pub mod Selected
pub mod Plan
pub mod Listed
