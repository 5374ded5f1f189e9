pub mod Named
pub mod Reached
