pub mod Ended
pub mod Lanes
pub mod Message
pub mod Rounds
