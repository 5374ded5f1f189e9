pub mod Audited
pub mod Found
pub mod Listed
pub mod Lost
pub mod Twice
