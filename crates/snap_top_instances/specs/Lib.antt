pub mod Asked
pub mod Resumed
pub mod Smooth
pub mod Told
