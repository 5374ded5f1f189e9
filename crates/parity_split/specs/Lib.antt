pub mod Joined
pub mod Parts
pub mod Values
pub mod Works
pub mod Begins
pub mod Split
pub mod SplitLaws
