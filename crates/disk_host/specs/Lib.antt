pub mod Drafts
pub mod Keeping
pub mod Listing
pub mod Opener
