pub mod Gaps
pub mod Laws
pub mod Listing
pub mod Passes
pub mod Sharing
