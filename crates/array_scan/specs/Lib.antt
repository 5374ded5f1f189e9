pub mod Fates
pub mod Lost
pub mod Laying
pub mod Layout
pub mod Marks
pub mod Own
pub mod Refusals
pub mod Keeping
