pub mod Changed
pub mod Lived
pub mod Once
pub mod Repeated
