pub mod Kept
pub mod StaysSound
pub mod Stopped
pub mod StoppedRuns
