pub mod Field
pub mod Halves
