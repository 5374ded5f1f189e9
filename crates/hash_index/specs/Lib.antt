pub mod Duplicates
pub mod Keeping
pub mod Linking
pub mod Listing
pub mod ListingState
pub mod Marking
pub mod Numbering
pub mod NumberingState
