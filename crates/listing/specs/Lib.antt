pub mod Listing
pub mod Typed
