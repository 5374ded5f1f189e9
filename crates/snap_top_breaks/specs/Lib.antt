pub mod Broken
pub mod BrokenScrub
pub mod BrokenSync
pub mod FrontOfSync
