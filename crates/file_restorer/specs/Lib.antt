pub mod Breaking
pub mod State
pub mod Order
pub mod Mending
pub mod Finishing
pub mod FinishSteps
