pub mod Reading
pub mod Findings
